-- What is spelled by a grammar has a property, where what is spelled by its parts has theirs.
use Rattle.std.proofs.Common.{◌≡◌, ℕ, ◌+◌, ◌==◌, ◌&&◌, cond, Bool, true, false, not, List, [], ◌∷◌, Option, Some, None, inl, inr, sym, ◌∙◌, refl, subst}
use Rattle.wit_arena.proofs.Common.{All, Err, IfSome, IsValid, Ok, Result, Span, and_from, and_parts, eqb-true, is_ascii_alphanumeric, is_label, slice_range, ⊤}
use Rattle.semver.specs.declared.error.Error.{Error}
use Rattle.semver.specs.Parse.{version_parts}
use Rattle.semver.proofs.Grammar.{version_parts-sound}
use Rattle.wit_names.proofs.LabelBytes.{list_all-label}
use Rattle.wit_lex.specs.Words.{unescaped}
use Rattle.wit_lex.specs.declared.fault.ReadFault.TheVariants as fault
use Rattle.wit_lex.specs.declared.kind.Kind.{Kind}
use Rattle.wit_lex.specs.declared.kind.Kind.TheVariants as kind
use Rattle.wit_lex.specs.Lexis.{Lexeme, first_token}
use Rattle.wit_lex.specs.VersionLexis.{version_to}
use Rattle.wit_grammar.specs.Grammar.{Gram, mark, name, name_but, version, deeper, both, act, either, opt, many, until, listed, seq, spells, Many, AreListed, ◌▸◌, ◌◂◌}
use Rattle.wit_grammar.specs.TokenKinds.{same_kind}
use Rattle.wit_grammar.specs.Leaves.{Spot, Read, is_in, lexed, moved, name_at, name_but_at, name_of, past, release_at, release_to, stop, text_of, version_at, ◌>>=◌}
use Rattle.wit_grammar.specs.Trees.{Name, Release, Text}
use Rattle.wit_grammar.proofs.LeafReads.{bind_ok, with_value}
use Rattle.wit_grammar.proofs.Spelled.{same_made}
use Rattle.wit_grammar.proofs.Tokens.{chosen}
use Rattle.wit_json_laws.specs.PlainTrees.{IsPlainText, IsPlainWord}
use Rattle.wit_json_laws.proofs.Lists.{all_more, all_none}

-- P holds of all that the grammar spells
abbrev pub Gives : {A : Type 0} → (A → Type 0) → Gram A → Type 0
Gives {A} P g = (a : A) (s e : Spot) → spells g a s e → P a

pub gives_any : {A : Type 0} (g : Gram A) → Gives (λ (a : A). ⊤) g
gives_any g a s e h = tt

pub gives_none : {A : Type 0} (P : A → Type 0) (ks : List Kind) → Gives P (deeper {A = A} ks)
gives_none P ks a s e h = absurd h

pub gives_act : {A B : Type 0} (P : B → Type 0) (f : A → B) (g : Gram A) → Gives (λ (a : A). P (f a)) g → Gives P (act f g)
gives_act P f g one b s e h = subst P (sym h.1) (one h.0 s e h.2)

pub gives_both : {A B C : Type 0} (P : C → Type 0) (Q : A → Type 0) (R : B → Type 0) (f : A → B → C) (g : Gram A) (k : Gram B) → Gives Q g → Gives R k → ((a : A) (b : B) → Q a → R b → P (f a b)) → Gives P (both f g k)
gives_both P Q R f g k one two make c s e h = subst P (sym h.3) (make h.0 h.1 (one h.0 s h.2 h.4) (two h.1 h.2 e h.5))

pub gives_either : {A : Type 0} (P : A → Type 0) (g k : Gram A) → Gives P g → Gives P k → Gives P (either g k)
gives_either P g k one two a s e h = elim h [ inl x ↦ one a s e x | inr x ↦ two a s e x ]

pub gives_opt : {A : Type 0} (P : A → Type 0) (g : Gram A) → Gives P g → Gives (λ (o : Option A). IfSome o P) (opt g)
gives_opt P g one None s e h = tt
gives_opt P g one (Some a) s e h = one a s e h

many_all : {A : Type 0} (P : A → Type 0) (g : Gram A) → Gives P g → (xs : List A) (s e : Spot) → Many (spells g) xs s e → All P xs
many_all P g one [] s e h = all_none P
many_all P g one (x ∷ xs) s e h = all_more P x xs (one x s h.0 h.1) (many_all P g one xs h.0 e h.2)

pub gives_many : {A : Type 0} (P : A → Type 0) (g : Gram A) → Gives P g → Gives (λ (xs : List A). All P xs) (many g)
gives_many P g one xs s e h = many_all P g one xs s e h

pub gives_until : {A : Type 0} (P : A → Type 0) (g : Gram A) (close : Kind) → Gives P g → Gives (λ (xs : List A). All P xs) (until g close)
gives_until P g close one xs s e h = many_all P g one xs s e h.0

are_listed : {A : Type 0} (P : A → Type 0) (g : Gram A) (close : Kind) → Gives P g → (x : A) (xs : List A) (s e : Spot) → AreListed (spells g) close x xs s e → All P (x ∷ xs)
are_listed P g close one x [] s e h = all_more P x [] (one x s h.0 h.1) (all_none P)
are_listed P g close one x (y ∷ ys) s e h = all_more P x (y ∷ ys) (one x s h.0 h.2) (are_listed P g close one y ys h.1 e h.4)

pub gives_listed : {A : Type 0} (P : A → Type 0) (opening close : Kind) (g : Gram A) → Gives P g → Gives (λ (xs : List A). All P xs) (listed opening close g)
gives_listed P opening close g one [] s e h = all_none P
gives_listed P opening close g one (x ∷ xs) s e h = are_listed P g close one x xs h.0 e h.2

-- of what is spelled after something else, or before it
pub gives_second : {A B : Type 0} (P : B → Type 0) (g : Gram A) (k : Gram B) → Gives P k → Gives P (both (λ (y : A) (x : B). x) g k)
gives_second {A} {B} P g k two = gives_both P (λ (a : A). ⊤) P (λ (y : A) (x : B). x) g k (gives_any g) two (λ a b q r. r)

pub gives_first : {A B : Type 0} (P : A → Type 0) (g : Gram A) (k : Gram B) → Gives P g → Gives P (both (λ (x : A) (y : B). x) g k)
gives_first {A} {B} P g k one = gives_both P P (λ (b : B). ⊤) (λ (x : A) (y : B). x) g k one (gives_any k) (λ a b q r. q)

pub gives_after : {A : Type 0} (P : A → Type 0) (k : Kind) (g : Gram A) → Gives P g → Gives P (k ▸ g)
gives_after P k g one = gives_second P (mark k) g one

pub gives_before : {A : Type 0} (P : A → Type 0) (g : Gram A) (k : Kind) → Gives P g → Gives P (g ◂ k)
gives_before P g k one = gives_first P g (mark k) one

pub gives_seq : {A B : Type 0} (P : A → Type 0) (Q : B → Type 0) (g : Gram A) (k : Gram B) → Gives P g → Gives Q k → Gives (λ (x : A × B). P x.0 × Q x.1) (seq g k)
gives_seq {A} {B} P Q g k one two = gives_both (λ (x : A × B). P x.0 × Q x.1) P Q (λ (x : A) (y : B). (x, y)) g k one two (λ a b q r. (q, r))

-- ---- names
other_byte : (c : ℕ) → is_ascii_alphanumeric c ≡ false → (b : ℕ) → is_ascii_alphanumeric b ≡ true → not (b == c) ≡ true
other_byte c none b h = by (b == c) refl where
  by : (v : Bool) → (b == c) ≡ v → not v ≡ true
  by false e = refl
  by true e = sym none ∙ subst (λ (k : ℕ). is_ascii_alphanumeric k ≡ true) (eqb-true _ _ e) h

-- no byte of a label is a `:` or an `@`
pub label_plain : (t : List ℕ) → is_label t ≡ true → IsPlainText t
label_plain t h = list_all-label (λ b. not (b == 58) && not (b == 64)) (record { alphanumeric = λ b is. and_from _ _ (other_byte 58 refl b is) (other_byte 64 refl b is); dash = refl }) t h

name_label : (a : Name) (s e : Spot) → name_at s ≡ Ok (a, e) → is_label a.text ≡ true
unfolding name_at
name_label a s e h =
    let test : Lexeme → Bool = λ t. same_kind t.kind kind.Name && is_label (unescaped (text_of s t)) in
    let read : Lexeme → Read Name = λ t. past s t >>= with_value (name_of s t) in
    let b = bind_ok (lexed s) (λ t. cond (test t) (read t) (stop fault.Token t)) (a, e) h in
    elim (chosen (test b.0) (read b.0) (stop fault.Token b.0) (Ok (a, e)) b.2) [
      | inl c ↦ (
          let n = bind_ok (past s b.0) (with_value (name_of s b.0)) (a, e) c.1 in
          let same : name_of s b.0 ≡ a = same_made (name_of s b.0) a n.0 e n.2 in
          subst (λ (m : Name). is_label m.text ≡ true) same (and_parts (same_kind b.0.kind kind.Name) (is_label (unescaped (text_of s b.0))) c.0).1)
      | inr c ↦ absurd (cc)
    ]

other_label : (ws : List Text) (a : Name) (s e : Spot) → name_but_at ws s ≡ Ok (a, e) → is_label a.text ≡ true
unfolding name_but_at
other_label ws a s e h =
    let b = bind_ok (lexed s) (λ t. cond (is_in (text_of s t) ws) (stop fault.Token t) (name_at s)) (a, e) h in
    elim (chosen (is_in (text_of s b.0) ws) (stop fault.Token b.0) (name_at s) (Ok (a, e)) b.2) [
      | inl c ↦ absurd (cc)
      | inr c ↦ name_label a s e c.1
    ]

pub gives_name : Gives IsPlainWord name
gives_name a s e h = label_plain a.text (name_label a s e h)

pub gives_other : (ws : List Text) → Gives IsPlainWord (name_but ws)
gives_other ws a s e h = label_plain a.text (other_label ws a s e h)

-- ---- versions
release_valid : (s e : Spot) (start end : ℕ) (text : List ℕ) (r : Result Release Error) (a : Span × Release) → version_parts text ≡ r → release_at s start end r ≡ Ok (a, e) → IsValid a.1
release_valid s e start end text (Err x) a is h = absurd (cc)
release_valid s e start end text (Ok release) a is h =
    let v : Span × Release = (record { start = s.offset + start; end = s.offset + end }, release) in
    let b = bind_ok (first_token s.source end) (λ _. with_value v (moved s end)) (a, e) h in
    let same : v ≡ a = same_made v a (moved s end) e b.2 in
    subst (λ (x : Span × Release). IsValid x.1) same (version_parts-sound text release is).1

release_to_valid : (s e : Spot) (start : ℕ) (r : Result ℕ ℕ) (a : Span × Release) → release_to s start r ≡ Ok (a, e) → IsValid a.1
release_to_valid s e start (Err at) a h =
    let b = bind_ok (first_token s.source at) (λ t. stop {A = (Span × Release) × Spot} fault.Token t) (a, e) h in
    let none = b.2 in
    absurd (cc)
release_to_valid s e start (Ok end) a h =
    let text = slice_range s.source start end in
    release_valid s e start end text (version_parts text) a refl h

abbrev pub IsPlainRelease : Span × Release → Type 0
IsPlainRelease x = IsValid x.1

version_valid : (a : Span × Release) (s e : Spot) → version_at s ≡ Ok (a, e) → IsValid a.1
unfolding version_at
version_valid a s e h =
    let read : Lexeme → Read (Span × Release) = λ t. release_to s t.start (version_to s.source t.end) in
    let b = bind_ok (lexed s) (λ t. cond (same_kind t.kind kind.Number) (read t) (stop fault.Token t)) (a, e) h in
    elim (chosen (same_kind b.0.kind kind.Number) (read b.0) (stop fault.Token b.0) (Ok (a, e)) b.2) [
      | inl c ↦ release_to_valid s e b.0.start (version_to s.source b.0.end) a c.1
      | inr c ↦ absurd (cc)
    ]

pub gives_version : Gives IsPlainRelease version
gives_version a s e h = version_valid a s e h
