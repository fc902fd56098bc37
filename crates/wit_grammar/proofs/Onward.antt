-- What is spelled begins as its grammar can begin and takes a token, or takes none.
use Rattle.std.proofs.Common.{◌≡◌, ℕ, ◌⊎◌, List, [], ◌∷◌, ◌++◌, length, ap, ◌∙◌, sym, arith, refl, true, false, Bool, not, inl, inr, Some, None}
use Rattle.std.specs.Prelude.{Ok, ◌==◌, ◌||◌}
use Rattle.std.specs.Str.{bytes_eq}
use Rattle.std.proofs.lemmas.Bool.{and_parts, and_from, and_left, and_right, cases_Bool, eqb-true, false_from_ne_true, or_cases, or_left, or_right, or_parts, or_from, true≢false}
use Rattle.std.proofs.lemmas.Slice.Eq.{bytes_eq-Decides}
use Rattle.wit_lex.specs.declared.kind.Kind.{Kind}
use Rattle.wit_lex.specs.declared.kind.Kind.TheVariants.{Comma}
use Rattle.wit_lex.specs.declared.kind.Kind.TheVariants as kind
use Rattle.wit_lex.specs.Lexis.{Lexeme}
use Rattle.wit_grammar.specs.TokenKinds.{kind_code, same_kind}
use Rattle.wit_grammar.specs.Trees.{Text}
use Rattle.wit_grammar.specs.Leaves.{Spot, lexed, text_of, is_in}
use Rattle.wit_grammar.specs.Grammar.{Gram, mark, spanned, says, name, name_but, number, version, primitives, docs, never, deeper, both, act, either, opt, many, until, listed, Terminal, of_kind, of_text, of_other, matches, matches_first, fits, among, nullable, where_empty, first, closes, spells, Many, AreListed, Listed}
use Rattle.wit_grammar.specs.OneToken.{apart_one, absent, apart}
use Rattle.wit_grammar.proofs.LeafReads.{IsInside, Ahead, Same, Begins, ahead_inside, same_inside, still, same_fits, fits_token, mark_begins, spanned_begins, text_begins, name_begins, other_begins, number_begins, version_begins, docs_same, primitive_begins}

pub isnt : (a : Bool) → not a ≡ true → a ≡ false
isnt true h = absurd (true≢false (sym h))
isnt false h = refl

pub clash : {P : Type 0} (a : Bool) → a ≡ true → a ≡ false → P
clash a h k = absurd (true≢false (sym h ∙ k))

-- ---- lists of terminals
among_prefix : (ks js : List Terminal) (s : Spot) → among (ks ++ js) s ≡ (among ks s || among js s)
among_prefix [] js s = refl
among_prefix (k ∷ ks) js s = ap (λ b. fits k s || b) (among_prefix ks js s) ∙ regroup (fits k s) (among ks s) (among js s)
  where
    regroup : (a b c : Bool) → (a || (b || c)) ≡ ((a || b) || c)
    regroup true b c = refl
    regroup false b c = refl

pub in_prefix : (ks js : List Terminal) (s : Spot) → among ks s ≡ true → among (ks ++ js) s ≡ true
in_prefix ks js s h = among_prefix ks js s ∙ or_left (among ks s) (among js s) h

pub in_back : (ks js : List Terminal) (s : Spot) → among js s ≡ true → among (ks ++ js) s ≡ true
in_back ks js s h = among_prefix ks js s ∙ or_right (among ks s) (among js s) h

pub not_among : (ks js : List Terminal) (s : Spot) → among (ks ++ js) s ≡ false → (among ks s ≡ false) × (among js s ≡ false)
not_among ks js s h = or_parts (among ks s) (among js s) (sym (among_prefix ks js s) ∙ h)

pub where_so : (b : Bool) (ks : List Terminal) → b ≡ true → where_empty b ks ≡ ks
where_so b ks h = rw h refl

pub same_among : (ks : List Terminal) (s e : Spot) → Same s e → among ks e ≡ among ks s
same_among [] s e h = refl
same_among (k ∷ ks) s e h = ap (λ b. b || among ks e) (same_fits k s e h) ∙ ap (λ b. fits k s || b) (same_among ks s e h)

-- where one of them fits there is a token
pub among_token : (ks : List Terminal) (s : Spot) → among ks s ≡ true → (t : Lexeme) × (lexed s ≡ Ok t)
among_token [] s h = absurd (true≢false (sym h))
among_token (k ∷ ks) s h = elim (or_cases (fits k s) (among ks s) h) [ inl f ↦ (let t = fits_token k s (lexed s) f in (t.0, t.1)) | inr f ↦ among_token ks s f ]

-- ---- no token is both
same_code : (a b : Kind) → same_kind a b ≡ true → kind_code a ≡ kind_code b
unfolding same_kind
same_code a b h = eqb-true (kind_code a) (kind_code b) h

unlike : (c k j : Kind) → same_kind k j ≡ false → same_kind c k ≡ true → same_kind c j ≡ false
unfolding same_kind
unlike c k j h f = ap (λ d. d == kind_code j) (same_code c k f) ∙ h

same_text : (a b : Text) → bytes_eq a b ≡ true → a ≡ b
same_text a b h = (bytes_eq-Decides a b).0 h

apart_match : (a b : Terminal) (s : Spot) (t : Lexeme) → apart_one a b ≡ true → matches a s t ≡ true → matches b s t ≡ false
apart_match (of_kind k) (of_kind j) s t h f = unlike t.kind k j (isnt (same_kind k j) h) f
apart_match (of_kind k) (of_text w) s t h f = and_left (same_kind t.kind kind.Name) (bytes_eq (text_of s t) w) (unlike t.kind k kind.Name (isnt (same_kind k kind.Name) h) f)
apart_match (of_kind k) (of_other ws) s t h f = and_left (same_kind t.kind kind.Name) (not (is_in (text_of s t) ws)) (unlike t.kind k kind.Name (isnt (same_kind k kind.Name) h) f)
apart_match (of_text w) (of_kind j) s t h f =
    unlike t.kind kind.Name j (isnt (same_kind kind.Name j) h) (and_parts (same_kind t.kind kind.Name) (bytes_eq (text_of s t) w) f).0
apart_match (of_text w) (of_text v) s t h f =
    let text = same_text (text_of s t) w (and_parts (same_kind t.kind kind.Name) (bytes_eq (text_of s t) w) f).1 in
    and_right (same_kind t.kind kind.Name) (bytes_eq (text_of s t) v) (ap (λ x. bytes_eq x v) text ∙ isnt (bytes_eq w v) h)
apart_match (of_text w) (of_other ws) s t h f =
    let text = same_text (text_of s t) w (and_parts (same_kind t.kind kind.Name) (bytes_eq (text_of s t) w) f).1 in
    and_right (same_kind t.kind kind.Name) (not (is_in (text_of s t) ws)) (ap not (ap (λ x. is_in x ws) text ∙ h))
apart_match (of_other ws) (of_kind j) s t h f =
    unlike t.kind kind.Name j (isnt (same_kind kind.Name j) h) (and_parts (same_kind t.kind kind.Name) (not (is_in (text_of s t) ws)) f).0
apart_match (of_other ws) (of_text v) s t h f =
    let outside = isnt (is_in (text_of s t) ws) (and_parts (same_kind t.kind kind.Name) (not (is_in (text_of s t) ws)) f).1 in
    and_right (same_kind t.kind kind.Name) (bytes_eq (text_of s t) v) (false_from_ne_true (bytes_eq (text_of s t) v) (λ e. clash (is_in (text_of s t) ws) (ap (λ x. is_in x ws) (same_text (text_of s t) v e) ∙ h) outside))
apart_match (of_other ws) (of_other vs) s t h f = absurd (true≢false (sym h))

apart_fits : (a b : Terminal) (s : Spot) → apart_one a b ≡ true → fits a s ≡ true → fits b s ≡ false
apart_fits a b s h f =
    let t = fits_token a s (lexed s) f in
    ap (matches_first b s) t.1 ∙ apart_match a b s t.0 h t.2

misses_one : (k : Terminal) (js : List Terminal) (s : Spot) → absent k js ≡ true → fits k s ≡ true → among js s ≡ false
misses_one k [] s h f = refl
misses_one k (j ∷ js) s h f =
    let p = and_parts (apart_one k j) (absent k js) h in
    or_from (fits j s) (among js s) (apart_fits k j s p.0 f) (misses_one k js s p.1 f)

pub misses : (ks js : List Terminal) (s : Spot) → apart ks js ≡ true → among ks s ≡ true → among js s ≡ false
misses [] js s h f = absurd (true≢false (sym f))
misses (k ∷ ks) js s h f =
    let p = and_parts (absent k js) (apart ks js) h in
    elim (or_cases (fits k s) (among ks s) f) [ inl g ↦ misses_one k js s p.0 g | inr g ↦ misses ks js s p.1 g ]

pub missed : (ks js : List Terminal) (s : Spot) → apart ks js ≡ true → among js s ≡ true → among ks s ≡ false
missed ks js s h f = elim (cases_Bool (among ks s)) [ inl g ↦ clash (among js s) f (misses ks js s h g) | inr g ↦ g ]

-- ---- what is spelled goes on
abbrev pub Onward : {A : Type 0} → Gram A → Spot → Spot → Type 0
Onward g s e = Begins (first g) s e ⊎ ((nullable g ≡ true) × Same s e)

-- that a grammar goes on wherever it spells something
abbrev pub GoesOn : {A : Type 0} → Gram A → Type 0
GoesOn {A} g = (a : A) (s e : Spot) → IsInside s → spells g a s e → Onward g s e

then_ahead : (s m e : Spot) → Ahead s m → Ahead m e → Ahead s e
then_ahead s m e a b =
    let low = a.more in
    let high = b.more in
    let within = b.within in
    let len = ap (λ (l : List ℕ). length l) a.source in
    record { source = b.source ∙ a.source; more = omega arith; within = omega arith }

ahead_same : (s m e : Spot) → Ahead s m → Same m e → Ahead s e
ahead_same s m e a b =
    let low = a.more in
    let high = b.onward in
    let within = b.within in
    let len = ap (λ (l : List ℕ). length l) a.source in
    record { source = b.source ∙ a.source; more = omega arith; within = omega arith }

same_ahead : (s m e : Spot) → Same s m → Ahead m e → Ahead s e
same_ahead s m e a b =
    let low = a.onward in
    let high = b.more in
    let within = b.within in
    let len = ap (λ (l : List ℕ). length l) a.source in
    record { source = b.source ∙ a.source; more = omega arith; within = omega arith }

both_same : (s m e : Spot) → Same s m → Same m e → Same s e
both_same s m e a b =
    let low = a.onward in
    let high = b.onward in
    let within = b.within in
    let len = ap (λ (l : List ℕ). length l) a.source in
    record { source = b.source ∙ a.source; onward = omega arith; within = omega arith; token = b.token ∙ a.token }

begins_later : (ks : List Terminal) (s m e : Spot) → Same s m → Begins ks m e → Begins ks s e
begins_later ks s m e h b = (sym (same_among ks s m h) ∙ b.0, same_ahead s m e h b.1)

pub onward_inside : {A : Type 0} (g : Gram A) (s e : Spot) → Onward g s e → IsInside e
onward_inside g s e (inl b) = ahead_inside s e b.1
onward_inside g s e (inr b) = same_inside s e b.1

-- several begin as one does, or there are none
pub many_onward : {A : Type 0} (g : Gram A) → GoesOn g → (xs : List A) (s e : Spot) → IsInside s → Many (spells g) xs s e → Begins (first g) s e ⊎ Same s e
many_onward g is [] s e inside h = inr (still s e inside h)
many_onward g is (x ∷ xs) s e inside h =
    let one = is x s h.0 inside h.1 in
    let rest = many_onward g is xs h.0 e (onward_inside g s h.0 one) h.2 in
    elim one [
      | inl t ↦ inl (t.0, elim rest [ inl u ↦ then_ahead s h.0 e t.1 u.1 | inr u ↦ ahead_same s h.0 e t.1 u ])
      | inr t ↦ elim rest [ inl u ↦ inl (begins_later (first g) s h.0 e t.1 u) | inr u ↦ inr (both_same s h.0 e t.1 u) ]
    ]

-- so do those before a mark
pub until_onward : {A : Type 0} (g : Gram A) (close : Kind) → GoesOn g → (xs : List A) (s e : Spot) → IsInside s → Many (spells g) xs s e → closes close e ≡ true →
    (among (first g ++ of_kind close ∷ []) s ≡ true) × (Ahead s e ⊎ Same s e)
until_onward g close is xs s e inside h last = elim (many_onward g is xs s e inside h) [
  | inl b ↦ (in_prefix (first g) (of_kind close ∷ []) s b.0, inl b.1)
  | inr b ↦ (in_back (first g) (of_kind close ∷ []) s (or_left (closes close s) false (sym (same_fits (of_kind close) s e b) ∙ last)), inr b)
]

listed_ahead : {A : Type 0} (g : Gram A) (close : Kind) → GoesOn g → (x : A) (xs : List A) (s e : Spot) → IsInside s → AreListed (spells g) close x xs s e → Ahead s e
listed_ahead g close is x [] s e inside h =
    let one = is x s h.0 inside h.1 in
    let next = onward_inside g s h.0 one in
    let rest : Ahead h.0 e = elim h.2 [
      | inl k ↦ (mark_begins close h.0 e next k).1
      | inr k ↦ (let comma = (mark_begins Comma h.0 k.0 next k.1).1 in then_ahead h.0 k.0 e comma (mark_begins close k.0 e (ahead_inside h.0 k.0 comma) k.2).1)
    ] in
    elim one [ inl t ↦ then_ahead s h.0 e t.1 rest | inr t ↦ same_ahead s h.0 e t.1 rest ]
listed_ahead g close is x (y ∷ ys) s e inside h =
    let one = is x s h.0 inside h.2 in
    let comma = (mark_begins Comma h.0 h.1 (onward_inside g s h.0 one) h.3).1 in
    let rest = then_ahead h.0 h.1 e comma (listed_ahead g close is y ys h.1 e (ahead_inside h.0 h.1 comma) h.4) in
    elim one [ inl t ↦ then_ahead s h.0 e t.1 rest | inr t ↦ same_ahead s h.0 e t.1 rest ]

pub all_ahead : {A : Type 0} (g : Gram A) (close : Kind) → GoesOn g → (xs : List A) (s e : Spot) → IsInside s → Listed (spells g) close xs s e → Ahead s e
all_ahead g close is [] s e inside h = (mark_begins close s e inside h).1
all_ahead g close is (x ∷ xs) s e inside h = listed_ahead g close is x xs s e inside h

-- of a grammar that one token decides or not
pub onward : {A : Type 0} (g : Gram A) (a : A) (s e : Spot) → IsInside s → spells g a s e → Onward g s e
onward (mark k) a s e inside h = inl (mark_begins k s e inside h)
onward (spanned k) a s e inside h = inl (spanned_begins k a s e inside h)
onward (says w) a s e inside h = inl (text_begins w a s e inside h)
onward name a s e inside h = inl (name_begins a s e inside h)
onward (name_but ws) a s e inside h = inl (other_begins ws a s e inside h)
onward number a s e inside h = inl (number_begins a s e inside h)
onward version a s e inside h = inl (version_begins a s e inside h)
onward primitives a s e inside h = inl (primitive_begins a s e inside h)
onward docs a s e inside h = inr (refl, docs_same a s e inside h)
onward never a s e inside h = absurd (h)
onward (deeper ks) a s e inside h = absurd (h)
onward (both f g k) c s e inside h =
    let one = onward g h.0 s h.2 inside h.4 in
    let two = onward k h.1 h.2 e (onward_inside g s h.2 one) h.5 in
    elim one [
      | inl t ↦ inl (in_prefix (first g) (where_empty (nullable g) (first k)) s t.0, elim two [ inl u ↦ then_ahead s h.2 e t.1 u.1 | inr u ↦ ahead_same s h.2 e t.1 u.1 ])
      | inr t ↦ elim two [
        | inl u ↦ (
            let b = begins_later (first k) s h.2 e t.1 u in
            inl (in_back (first g) (where_empty (nullable g) (first k)) s (rw (where_so (nullable g) (first k) t.0) b.0), b.1)
            )
        | inr u ↦ inr (and_from (nullable g) (nullable k) t.0 u.0, both_same s h.2 e t.1 u.1)
      ]
    ]
onward (act f g) a s e inside h = onward g h.0 s e inside h.2
onward (either g k) a s e inside h = elim h [
  | inl x ↦ elim (onward g a s e inside x) [ inl t ↦ inl (in_prefix (first g) (first k) s t.0, t.1) | inr t ↦ inr (or_left (nullable g) (nullable k) t.0, t.1) ]
  | inr x ↦ elim (onward k a s e inside x) [ inl t ↦ inl (in_back (first g) (first k) s t.0, t.1) | inr t ↦ inr (or_right (nullable g) (nullable k) t.0, t.1) ]
]
onward (opt g) None s e inside h = inr (refl, still s e inside h)
onward (opt g) (Some a) s e inside h = elim (onward g a s e inside h) [ inl t ↦ inl t | inr t ↦ inr (refl, t.1) ]
onward (many g) xs s e inside h = elim (many_onward g (λ a s e i k. onward g a s e i k) xs s e inside h) [ inl t ↦ inl t | inr t ↦ inr (refl, t) ]
onward (until g close) xs s e inside h =
    let u = until_onward g close (λ a s e i k. onward g a s e i k) xs s e inside h.0 h.1 in
    elim u.1 [ inl t ↦ inl (u.0, t) | inr t ↦ inr (refl, t) ]
onward (listed opening close g) xs s e inside h =
    let b = mark_begins opening s h.0 inside h.1 in
    inl (b.0, then_ahead s h.0 e b.1 (all_ahead g close (λ a s e i k. onward g a s e i k) xs h.0 e (ahead_inside s h.0 b.1) h.2))

pub begins : {A : Type 0} (g : Gram A) (a : A) (s e : Spot) → IsInside s → nullable g ≡ false → spells g a s e → Begins (first g) s e
begins g a s e inside n h = elim (onward g a s e inside h) [ inl t ↦ t | inr t ↦ clash (nullable g) t.0 n ]
