-- Objects whose keys are some of a list, in its order.
use Rattle.std.proofs.Common.{◌≡◌, ℕ, List, [], ◌∷◌, ◌++◌, Option, Some, None, ap, refl}
use Rattle.json.specs.Json.{Json}
use Rattle.json.specs.Strict.{keys}
use Rattle.wit_json.specs.Values.{members_of}
use Rattle.wit_json.proofs.Apart.{Apart, IsNew}

-- each key has a value here, or is left out
abbrev pub object_of : List (List ℕ) → List (Option Json) → List (List ℕ × Json)
object_of [] vs = []
object_of (k ∷ ks) [] = []
object_of (k ∷ ks) (None ∷ vs) = object_of ks vs
object_of (k ∷ ks) (Some j ∷ vs) = (k, j) ∷ object_of ks vs

-- the members are such
pub data Shape : List (List ℕ) → List (Option Json) → List (List ℕ × Json) → Type 0 where
  End : Shape [] [] []
  Have : (k : List ℕ) (j : Json) (ks : List (List ℕ)) (vs : List (Option Json)) (ms : List (List ℕ × Json)) → Shape ks vs ms → Shape (k ∷ ks) (Some j ∷ vs) ((k, j) ∷ ms)
  Lack : (k : List ℕ) (ks : List (List ℕ)) (vs : List (Option Json)) (ms : List (List ℕ × Json)) → Shape ks vs ms → Shape (k ∷ ks) (None ∷ vs) ms

pub have : {k : List ℕ} {j : Json} {ks : List (List ℕ)} {vs : List (Option Json)} {ms : List (List ℕ × Json)} → Shape ks vs ms → Shape (k ∷ ks) (Some j ∷ vs) ((k, j) ∷ ms)
have {k} {j} {ks} {vs} {ms} f = Have k j ks vs ms f

pub lack : {k : List ℕ} {ks : List (List ℕ)} {vs : List (Option Json)} {ms : List (List ℕ × Json)} → Shape ks vs ms → Shape (k ∷ ks) (None ∷ vs) ms
lack {k} {ks} {vs} {ms} f = Lack k ks vs ms f

pub both : {ks ls : List (List ℕ)} {vs ws : List (Option Json)} {ms ns : List (List ℕ × Json)} → Shape ks vs ms → Shape ls ws ns → Shape (ks ++ ls) (vs ++ ws) (ms ++ ns)
both End g = g
both (Have k j ks vs ms f) g = have (both f g)
both (Lack k ks vs ms f) g = lack (both f g)

pub shape_is : {ks : List (List ℕ)} {vs : List (Option Json)} {ms : List (List ℕ × Json)} → Shape ks vs ms → ms ≡ object_of ks vs
shape_is End = refl
shape_is (Have k j ks vs ms f) = ap (λ more. (k, j) ∷ more) (shape_is f)
shape_is (Lack k ks vs ms f) = shape_is f

-- a key that is not in the list is not in the object
pub object_lacks : (k : List ℕ) (ks : List (List ℕ)) (vs : List (Option Json)) → IsNew k ks → IsNew k (keys (members_of (object_of ks vs)))
object_lacks k [] vs new = tt
object_lacks k (l ∷ ks) [] new = tt
object_lacks k (l ∷ ks) (None ∷ vs) new = object_lacks k ks vs new.1
object_lacks k (l ∷ ks) (Some j ∷ vs) new = (new.0, object_lacks k ks vs new.1)

pub object_apart : (ks : List (List ℕ)) (vs : List (Option Json)) → Apart ks → Apart (keys (members_of (object_of ks vs)))
object_apart [] vs apart = tt
object_apart (k ∷ ks) [] apart = tt
object_apart (k ∷ ks) (None ∷ vs) apart = object_apart ks vs apart.1
object_apart (k ∷ ks) (Some j ∷ vs) apart = (object_lacks k ks vs apart.0, object_apart ks vs apart.1)
