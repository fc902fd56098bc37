-- What occurred on the sides of a world, and one more of it.
use Rattle.std.proofs.Common.{◌≡◌, ℕ, ◌+◌, Bool, true, false, if◌then◌else◌, List, [], ◌∷◌, ◌++◌, length, refl, sym, ap, ◌∙◌, add-zero}
use Rattle.wit_items.proofs.Common.{Exported, Extern, Id, Imported, InterfaceItem, Link, SideFunction, SideInline, SideItem, SideLink, SourceFunction, WorldSide, append-nil, filter-append, flat_map, flat_map-append, item_function, item_inline, item_side, items_on, length-append, same_side}
use Rattle.wit_links.specs.declared.inside.Seen.{Seen}
use Rattle.wit_links.specs.Links.{IsSeen, seen_on}

-- one more on the sides: so many that are written there, and so many functions
inline_more : (s : WorldSide) (xs : List SideItem) (x : SideItem) (n : ℕ) → length (flat_map item_inline (items_on s (x ∷ []))) ≡ n → length (flat_map item_inline (items_on s (xs ++ x ∷ []))) ≡ length (flat_map item_inline (items_on s xs)) + n
inline_more s xs x n one =
    ap (λ (l : List SideItem). length (flat_map item_inline l)) (filter-append (λ y. same_side s (item_side y)) xs (x ∷ []))
    ∙ ap length (flat_map-append item_inline (items_on s xs) (items_on s (x ∷ [])))
    ∙ length-append (flat_map item_inline (items_on s xs)) (flat_map item_inline (items_on s (x ∷ [])))
    ∙ ap (λ (k : ℕ). length (flat_map item_inline (items_on s xs)) + k) one

functions_more : (xs : List SideItem) (x : SideItem) → length (flat_map item_function (xs ++ x ∷ [])) ≡ length (flat_map item_function xs) + length (item_function x)
functions_more xs x =
    ap length (flat_map-append item_function xs (x ∷ []))
    ∙ length-append (flat_map item_function xs) (flat_map item_function (x ∷ []))
    ∙ ap (λ l. length (flat_map item_function xs) + length l) (append-nil (item_function x))

-- what is not written there, on whichever side
none_more : (s : WorldSide) (xs : List SideItem) (x : SideItem) → item_inline x ≡ [] → length (flat_map item_inline (items_on s xs)) ≡ length (flat_map item_inline (items_on s (xs ++ x ∷ [])))
none_more s xs x none = sym (inline_more s xs x 0 (by (same_side s (item_side x))) ∙ add-zero (length (flat_map item_inline (items_on s xs))))
  where
    by : (b : Bool) → length (flat_map item_inline (if b then x ∷ [] else [])) ≡ 0
    by true = ap length (append-nil (item_inline x) ∙ none)
    by false = refl

-- one function more
pub seen_function : (xs : List SideItem) (fn : SourceFunction) (m : Seen) (n : ℕ) → n ≡ m.functions + 1 → IsSeen xs m → IsSeen (xs ++ SideFunction fn ∷ []) (record { functions = n; imported = m.imported; exported = m.exported })
seen_function xs fn m n next seen = record {
  inline = λ s. same s ∙ seen.inline s ∙ none_more s xs (SideFunction fn) refl;
  functions = next ∙ ap (λ (k : ℕ). k + 1) seen.functions ∙ sym (functions_more xs (SideFunction fn));
}
  where
    same : (s : WorldSide) → seen_on s (record { functions = n; imported = m.imported; exported = m.exported }) ≡ seen_on s m
    same Imported = refl
    same Exported = refl

-- one interface by its path
pub seen_link : (xs : List SideItem) (link : Link) (m : Seen) → IsSeen xs m → IsSeen (xs ++ SideLink link ∷ []) m
seen_link xs link m seen = record {
  inline = λ s. seen.inline s ∙ none_more s xs (SideLink link) refl;
  functions = seen.functions ∙ sym (functions_more xs (SideLink link) ∙ add-zero (length (flat_map item_function xs)));
}

-- or one that is written there
pub seen_inline : (side : WorldSide) (xs : List SideItem) (x : Extern) (name : Id) (items : List InterfaceItem) (m m' : Seen) → x.side ≡ side → ((s : WorldSide) → seen_on s m' ≡ seen_on s m + (if same_side s side then 1 else 0)) → m'.functions ≡ m.functions → IsSeen xs m → IsSeen (xs ++ SideInline x name items ∷ []) m'
seen_inline side xs x name items m m' on more functions seen =
    let here = SideInline x name items in
    record {
      inline = λ s. more s ∙ ap (λ (k : ℕ). k + (if same_side s side then 1 else 0)) (seen.inline s) ∙ sym (inline_more s xs here _ (ap (λ (t : WorldSide). length (flat_map item_inline (if same_side s t then here ∷ [] else []))) on ∙ by (same_side s side)));
      functions = functions ∙ seen.functions ∙ sym (functions_more xs here ∙ add-zero (length (flat_map item_function xs)));
    }
  where
    by : (b : Bool) → length (flat_map item_inline (if b then SideInline x name items ∷ [] else [])) ≡ (if b then 1 else 0)
    by true = refl
    by false = refl

-- on one side or the other
pub imported_more : (m : Seen) (n : ℕ) → n ≡ m.imported + 1 → (s : WorldSide) → seen_on s (record { functions = m.functions; imported = n; exported = m.exported }) ≡ seen_on s m + (if same_side s Imported then 1 else 0)
imported_more m n next Imported = next
imported_more m n next Exported = sym (add-zero m.exported)

pub exported_more : (m : Seen) (n : ℕ) → n ≡ m.exported + 1 → (s : WorldSide) → seen_on s (record { functions = m.functions; imported = m.imported; exported = n }) ≡ seen_on s m + (if same_side s Exported then 1 else 0)
exported_more m n next Imported = sym (add-zero m.imported)
exported_more m n next Exported = next
