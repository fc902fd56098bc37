-- Tables that know unnamed entries, and one entry more.
use Rattle.std.proofs.Common.{◌≡◌, ◌⊎◌, ℕ, Bool, true, false, List, [], ◌∷◌, ◌++◌, length, Option, Some, None, if◌then◌else◌, inl, inr, refl, sym, ap, ◌∙◌}
use Rattle.std.specs.Bool.{Decides}
use Rattle.std.specs.Prelude.{is_some}
use Rattle.wit_arena.proofs.Common.{Span, Stability, TypeDef, TypeDefKind, at_either, unnamed}
use Rattle.wit_intern.specs.declared.key.InternKey.{InternKey}
use Rattle.wit_intern.specs.TypeKeys.{key_of}
use Rattle.wit_intern.specs.FiniteMap.{FiniteMap}
use Rattle.wit_intern.proofs.TypeKeys.{keys_determine}
use Rattle.wit_intern.proofs.SameKeys.{Decides-key}
use Rattle.wit_entries.specs.Known.{AreKnown, IsMissing, IsSet, Keyless, AtKeyHash, AtKey, key_hash_of}

chosen : {P : Type 0} {X : Type 0} (b : Bool) (x y : X) → Decides b P → P → (if b then x else y) ≡ x
chosen true x y d p = refl
chosen false x y d p = absurd (let wrong = d.1 p in let f : ⊥ = cc in f)

left_out : {P : Type 0} {X : Type 0} (b : Bool) (x y : X) → Decides b P → (P → ⊥) → (if b then x else y) ≡ y
left_out true x y d n = absurd (n (d.0 refl))
left_out false x y d n = refl

-- tables that stay know what they knew
pub known_kept : (key_hashes : ℕ → Option ℕ) (keys : FiniteMap) (new_key_hashes : ℕ → Option ℕ) (new_keys : FiniteMap) (es : List TypeDef) → new_key_hashes ≡ key_hashes → new_keys ≡ keys → AreKnown key_hashes keys es → AreKnown new_key_hashes new_keys es
known_kept key_hashes keys new_key_hashes new_keys es same_key_hashes same_keys known = rw (same_key_hashes, same_keys) known

-- a place at a missing kind's key
pub known_set : (key_hashes : ℕ → Option ℕ) (keys : FiniteMap) (new_key_hashes : ℕ → Option ℕ) (new_keys : FiniteMap) (es : List TypeDef) (kind : TypeDefKind) (key : Option InternKey) (i : ℕ) → key ≡ key_of kind → IsMissing kind es →
    IsSet key i key_hashes keys new_key_hashes new_keys → AreKnown key_hashes keys es → AreKnown new_key_hashes new_keys es
known_set key_hashes keys new_key_hashes new_keys es kind key i is missing (Keyless none same_key_hashes same_keys) known = rw (same_key_hashes, same_keys) known
known_set key_hashes keys new_key_hashes new_keys es kind key i is missing (AtKeyHash k some kept there same_keys) known = λ j e q at name has. elim (known j e q at name has) [
  | inl h ↦ inl (kept (key_hash_of q) j h)
  | inr h ↦ inr (ap (λ (t : FiniteMap). t q) same_keys ∙ h)
]
known_set key_hashes keys new_key_hashes new_keys es kind key i is missing (AtKey k some same_key_hashes set) known = λ j e q at name has. elim (known j e q at name has) [
  | inl h ↦ inl (ap (λ (t : ℕ → Option ℕ). t (key_hash_of q)) same_key_hashes ∙ h)
  | inr h ↦ inr (ap (λ (t : FiniteMap). t q) set
      ∙ left_out _ (Some i) (keys q) (Decides-key k q) (λ same. missing j e at (record { name = name; kind = keys_determine e.kind kind k (has ∙ ap Some (sym same)) (sym is ∙ some) })) ∙ h)
]

-- the place of a key that was set
pub known_there : (key_hashes : ℕ → Option ℕ) (keys : FiniteMap) (new_key_hashes : ℕ → Option ℕ) (new_keys : FiniteMap) (key : Option InternKey) (k : InternKey) (i : ℕ) → key ≡ Some k →
    IsSet key i key_hashes keys new_key_hashes new_keys → (new_key_hashes (key_hash_of k) ≡ Some i) ⊎ (new_keys k ≡ Some i)
known_there key_hashes keys new_key_hashes new_keys key k i is (Keyless none same_key_hashes same_keys) = absurd (let wrong : Some k ≡ None = sym is ∙ none in let f : ⊥ = cc in f)
known_there key_hashes keys new_key_hashes new_keys key k i is (AtKeyHash q some kept there same_keys) =
    let one : Some q ≡ Some k = sym some ∙ is in
    let same : q ≡ k = cc in
    inl (ap (λ (x : InternKey). new_key_hashes (key_hash_of x)) (sym same) ∙ there)
known_there key_hashes keys new_key_hashes new_keys key k i is (AtKey q some same_key_hashes set) =
    let one : Some q ≡ Some k = sym some ∙ is in
    let same : q ≡ k = cc in
    inr (ap (λ (t : FiniteMap). t k) set ∙ chosen _ (Some i) (keys k) (Decides-key q k) same)

-- an unnamed entry more, whose place was set before
pub known_unnamed : (key_hashes : ℕ → Option ℕ) (keys : FiniteMap) (new_key_hashes : ℕ → Option ℕ) (new_keys : FiniteMap) (es : List TypeDef) (kind : TypeDefKind) (stability : Stability) (span : Span) (key : Option InternKey) → key ≡ key_of kind → IsMissing kind es →
    IsSet key (length es) key_hashes keys new_key_hashes new_keys → AreKnown key_hashes keys es → AreKnown new_key_hashes new_keys (es ++ unnamed kind stability span ∷ [])
known_unnamed key_hashes keys new_key_hashes new_keys es kind stability span key is missing set known = λ j x k at none has.
    elim (at_either es (unnamed kind stability span) j x at.is) [
      | inl there ↦ known_set key_hashes keys new_key_hashes new_keys es kind key (length es) is missing set known j x k (record { is = there }) none has
      | inr last ↦ (
          let here : key ≡ Some k = is ∙ ap (λ (e : TypeDef). key_of e.kind) (sym last.1) ∙ has in
          rw last.0 (known_there key_hashes keys new_key_hashes new_keys key k (length es) here set))
    ]

-- a named entry more
pub known_named : (key_hashes : ℕ → Option ℕ) (keys : FiniteMap) (es new : List TypeDef) (x : TypeDef) → new ≡ es ++ x ∷ [] → is_some x.name ≡ true → AreKnown key_hashes keys es → AreKnown key_hashes keys new
known_named key_hashes keys es new x is some known = rw is (λ j e k at none has. elim (at_either es x j e at.is) [
  | inl there ↦ known j e k (record { is = there }) none has
  | inr last ↦ absurd (let wrong : true ≡ false = sym some ∙ ap (λ (e : TypeDef). is_some e.name) (sym last.1) ∙ ap is_some none in let f : ⊥ = cc in f)
])
