-- Sources as they are stated: what they take, and when they are equal.
use Rattle.std.proofs.Common.{◌≡◌, ℕ, ◌+◌, List, [], ◌∷◌, length, string_bytes, map, ap, ◌∙◌, sym, refl, rules}
use Rattle.std.specs.Bool.{Decides}
use Rattle.std.specs.Cmp.Lexicographic.{pointwise}
use Rattle.std.specs.List.{AllZip, sum}
use Rattle.std.proofs.lemmas.Bool.Decides.{Decides-like, Decides-and, Decides-eqb}
use Rattle.std.proofs.lemmas.List.Sums.{sum-map}
use Rattle.wit_lex.specs.contracts.source.SourcePartialEq.TheImpl.{eq-value as source_test}
use Rattle.wit_lex.specs.contracts.source_map.SourceMapPartialEq.TheImpl.{eq-value as map_test}
use Rattle.wit_lex.specs.declared.source.Source.{Source}
use Rattle.wit_lex.specs.declared.source_map.SourceMap.{SourceMap}
use Rattle.wit_lex.specs.Sources.{space, as_stated, stated_of}

abbrev room : List ℕ × List ℕ × ℕ → ℕ
room t = length t.1 + 1

rooms : (ss : List Source) → map room (as_stated ss) ≡ map (λ s. length (string_bytes s.contents) + 1) ss
rooms [] = refl
rooms (s ∷ ss) = ap (λ l. (length (string_bytes s.contents) + 1) ∷ l) (rooms ss)

stated_space : (ss : List Source) → sum (map room (as_stated ss)) ≡ space ss
stated_space ss = ap sum (rooms ss) ∙ sum-map (λ s. length (string_bytes s.contents) + 1) ss

-- sources that are stated alike take the same places
pub same_space : (ss ts : List Source) → as_stated ts ≡ as_stated ss → space ts ≡ space ss
same_space ss ts e = sym (stated_space ts) ∙ (ap (λ l. sum (map room l)) e ∙ stated_space ss)

-- copies are stated alike
pub same_stated : (ss ts : List Source) → AllZip (λ s t. stated_of t ≡ stated_of s) ss ts → as_stated ts ≡ as_stated ss
same_stated [] [] h = refl
same_stated [] (t ∷ ts) h = absurd h
same_stated (s ∷ ss) [] h = absurd h
same_stated (s ∷ ss) (t ∷ ts) h = search (rules, same_stated ss ts h.1, h.0)

Decides-source : (s t : Source) → Decides (source_test.it s t) (stated_of s ≡ stated_of t)
Decides-source s t = search rules

Decides-as_stated : (ss ts : List Source) → Decides (pointwise source_test.it ss ts) (as_stated ss ≡ as_stated ts)
Decides-as_stated [] [] = search rules
Decides-as_stated [] (t ∷ ts) = search rules
Decides-as_stated (s ∷ ss) [] = search rules
Decides-as_stated (s ∷ ss) (t ∷ ts) = search (rules, Decides-source s t, Decides-as_stated ss ts)

-- `==` of two maps is true exactly if their sources are stated alike
pub Decides-map : (m n : SourceMap) → Decides (map_test.it m n) (as_stated m.sources.items ≡ as_stated n.sources.items)
Decides-map m n =
    Decides-like _ (λ p. p.0) (λ e. (e, m.laid ∙ (same_space n.sources.items m.sources.items e ∙ sym n.laid))) (Decides-and _ _ (Decides-as_stated m.sources.items n.sources.items) (Decides-eqb m.end n.end))
