-- Tables over the first of each.
use Rattle.std.proofs.Common.{◌≡◌, Bool, true, false, cond, ◌||◌, List, [], ◌∷◌, ◌++◌, Option, Some, None, map, refl, sym, ap, ◌∙◌}
use Rattle.wit_syntax.proofs.Common.{append-nil, insert_entry, is_some, list_any, lookup}
use Rattle.wit_foreign.proofs.Firsts.{Apart, each_map, map_each}

-- a table with a value at each key, where the value at one key grows
pub upsert-map : {X K V : Type 0} (eq : K → K → Bool) → ((a b : K) → eq a b ≡ true → a ≡ b) → (key : X → K) (f : X → V) (h : Option V → V) (x : X) (ps : List X) → Apart (λ a b. eq (key a) (key b)) ps → map (λ p. (key p, cond (eq (key x) (key p)) (h (Some (f p))) (f p))) ps ++ cond (list_any (λ p. eq (key x) (key p)) ps) [] ((key x, h None) ∷ []) ≡ insert_entry eq (map (λ p. (key p, f p)) ps) (key x) (h (lookup (eq (key x)) (map (λ p. (key p, f p)) ps)))
upsert-map eq equal key f h x [] apart = refl
upsert-map {X} {K} {V} eq equal key f h x (p ∷ ps) apart = go (upsert-map eq equal key f h x ps apart.1) (eq (key x) (key p)) refl
  where
    extended : X → K × V
    extended q = (key q, cond (eq (key x) (key q)) (h (Some (f q))) (f q))

    plain : X → K × V
    plain q = (key q, f q)

    go : map extended ps ++ cond (list_any (λ q. eq (key x) (key q)) ps) [] ((key x, h None) ∷ []) ≡ insert_entry eq (map plain ps) (key x) (h (lookup (eq (key x)) (map plain ps))) → (b : Bool) → eq (key x) (key p) ≡ b → map extended (p ∷ ps) ++ cond (eq (key x) (key p) || list_any (λ q. eq (key x) (key q)) ps) [] ((key x, h None) ∷ []) ≡ insert_entry eq (plain p ∷ map plain ps) (key x) (h (lookup (eq (key x)) (plain p ∷ map plain ps)))
    go rest true e =
        let same : key p ≡ key x = sym (equal (key x) (key p) e) in
        let others : map extended ps ≡ map plain ps = map_each extended plain ps (each_map (λ q. eq (key p) (key q) ≡ false) (λ q. extended q ≡ plain q) ps (λ q g. ap (λ b. (key q, cond b (h (Some (f q))) (f q))) (ap (λ k. eq k (key q)) (sym same) ∙ g)) apart.0) in
        rw e (append-nil ((key p, h (Some (f p))) ∷ map extended ps) ∙ ap (λ es. (key p, h (Some (f p))) ∷ es) others)
    go rest false e = rw e (ap (λ es. plain p ∷ es) rest)

-- a key is there exactly where it is the key of something
pub is_some-lookup-map : {X K V : Type 0} (t : K → Bool) (key : X → K) (f : X → V) (ps : List X) → is_some (lookup t (map (λ p. (key p, f p)) ps)) ≡ list_any (λ p. t (key p)) ps
is_some-lookup-map t key f [] = refl
is_some-lookup-map {X} {K} {V} t key f (p ∷ ps) = go (is_some-lookup-map t key f ps) (t (key p)) refl
  where
    go : is_some (lookup t (map (λ q. (key q, f q)) ps)) ≡ list_any (λ q. t (key q)) ps → (b : Bool) → t (key p) ≡ b → is_some (lookup t (map (λ q. (key q, f q)) (p ∷ ps))) ≡ (t (key p) || list_any (λ q. t (key q)) ps)
    go rest true e = rw e refl
    go rest false e = rw e rest

-- what a key finds among values that keys alone say
pub lookup-as_stated : {X K V : Type 0} (eq : K → K → Bool) → ((a b : K) → eq a b ≡ true → a ≡ b) → (key : X → K) (as_stated : K → V) (k : K) (ps : List X) → lookup (eq k) (map (λ p. (key p, as_stated (key p))) ps) ≡ cond (list_any (λ p. eq k (key p)) ps) (Some (as_stated k)) None
lookup-as_stated eq equal key as_stated k [] = refl
lookup-as_stated {X} {K} {V} eq equal key as_stated k (p ∷ ps) = go (lookup-as_stated eq equal key as_stated k ps) (eq k (key p)) refl
  where
    go : lookup (eq k) (map (λ q. (key q, as_stated (key q))) ps) ≡ cond (list_any (λ q. eq k (key q)) ps) (Some (as_stated k)) None → (b : Bool) → eq k (key p) ≡ b → lookup (eq k) (map (λ q. (key q, as_stated (key q))) (p ∷ ps)) ≡ cond (eq k (key p) || list_any (λ q. eq k (key q)) ps) (Some (as_stated k)) None
    go rest true e = rw e (ap (λ q. Some (as_stated q)) (sym (equal k (key p) e)))
    go rest false e = rw e rest
