-- Where a function gives the place of each key, and scopes are where they are stated to, each world of the package is stated.
use Rattle.std.proofs.Common.{◌≡◌, ℕ, List, [], ◌∷◌, refl, ap, ◌∙◌, Option, None}
use Rattle.wit_arena.proofs.Names.{Address, Def, Key, Metadata, ScopeName, Span, Stability, Type_, World, WorldInclude, WorldItem, WorldKey, includes, local_id, local_name, name_imports, name_places, type_imports, world, Docs}
use Rattle.wit_model.specs.declared.world.WorldKey.TheVariants as key

abbrev Entries : Type 0
Entries = List (WorldKey × WorldItem)

abbrev fields : List ℕ → Entries → Entries → Option ℕ → Docs → Stability → List WorldInclude → Span → World
fields name imports exports of docs stability includes span = record { name = name; imports = imports; exports = exports; «package» = of; docs = docs; stability = stability; includes = includes; span = span }

-- a world says this, field by field
pub world_from : (name : List ℕ) (span : Span) (n : Metadata) (w : World) → w.name ≡ name → w.span ≡ span → w.docs ≡ n.docs → w.stability ≡ n.stability → w.package ≡ None → w ≡ world name w.imports w.exports w.includes n span
world_from name span n w called present docs stability of = (let same : fields w.name w.imports w.exports w.package w.docs w.stability w.includes w.span ≡ world name w.imports w.exports w.includes n span = cc in same)

-- a world with the same imports, exports and includes is the same
pub world_stated : (name : List ℕ) (span : Span) (n : Metadata) (w : World) (i i' e e' : Entries) (is is' : List WorldInclude) → w ≡ world name i e is n span → i ≡ i' → e ≡ e' → is ≡ is' → w ≡ world name i' e' is' n span
world_stated name span n w i i' e e' is is' says same_imports same_exports same_includes =
    says ∙ ap (λ (l : Entries). world name l e is n span) same_imports ∙ ap (λ (l : Entries). world name i' l is n span) same_exports ∙ ap (λ (l : List WorldInclude). world name i' e' l n span) same_includes

-- names as imports, where their places are stated
pub type_imports-as_stated : (id : Key → ℕ) (s : Address) (xs : List ScopeName) → type_imports xs (name_places id s xs) ≡ name_imports id s xs
type_imports-as_stated id s [] = refl
type_imports-as_stated id s (x ∷ xs) = ap (λ (l : Entries). (key.Name (local_name x), Type_ (id (Def s (local_name x))) (local_id x).span) ∷ l) (type_imports-as_stated id s xs)
