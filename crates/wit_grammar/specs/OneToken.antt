-- Whether one token decides how a grammar goes on: a test that computes.
use Rattle.std.specs.Prelude.{Bool, true, false, ◌&&◌, not, List, [], ◌∷◌, ◌++◌}
use Rattle.std.specs.Str.{bytes_eq}
use Rattle.wit_lex.specs.declared.kind.Kind.TheVariants.{Comma}
use Rattle.wit_lex.specs.declared.kind.Kind.TheVariants as kind
use Rattle.wit_grammar.specs.TokenKinds.{same_kind}
use Rattle.wit_grammar.specs.Leaves.{is_in}
use Rattle.wit_grammar.specs.Grammar.{Gram, both, act, either, opt, many, until, listed, Terminal, of_kind, of_text, of_other, nullable, where_empty, first}

-- no token is both
abbrev pub apart_one : Terminal → Terminal → Bool
apart_one (of_kind k) (of_kind j) = not (same_kind k j)
apart_one (of_kind k) (of_text w) = not (same_kind k kind.Name)
apart_one (of_kind k) (of_other ws) = not (same_kind k kind.Name)
apart_one (of_text w) (of_kind j) = not (same_kind kind.Name j)
apart_one (of_text w) (of_text v) = not (bytes_eq w v)
apart_one (of_text w) (of_other ws) = is_in w ws
apart_one (of_other ws) (of_kind j) = not (same_kind kind.Name j)
apart_one (of_other ws) (of_text v) = is_in v ws
apart_one (of_other ws) (of_other vs) = false

abbrev pub absent : Terminal → List Terminal → Bool
absent k [] = true
absent k (j ∷ js) = apart_one k j && absent k js

abbrev pub apart : List Terminal → List Terminal → Bool
apart [] js = true
apart (k ∷ ks) js = absent k js && apart ks js

-- with what it could go on where it can end
abbrev pub more : {A : Type 0} → Gram A → List Terminal
more (both f g h) = more h ++ where_empty (nullable h) (more g)
more (act f g) = more g
more (either g h) = more g ++ more h
more (opt g) = first g ++ more g
more (many g) = first g ++ more g
more other = []

-- an item of several takes a token, and one token says whether one more comes
abbrev pub an_item : {A : Type 0} → Gram A → Bool → List Terminal → List Terminal → Bool
an_item g one ends after = (one && not (nullable g)) && (apart (first g) ends && apart (more g) after)

abbrev pub one_token : {A : Type 0} → Gram A → Bool
one_token (both f g h) = (one_token g && one_token h) && apart (more g) (first h)
one_token (act f g) = one_token g
one_token (either g h) = (one_token g && one_token h) && ((not (nullable g) && not (nullable h)) && apart (first g) (first h))
one_token (opt g) = one_token g && not (nullable g)
one_token (many g) = an_item g (one_token g) [] (first g)
one_token (until g close) = an_item g (one_token g) (of_kind close ∷ []) (first g ++ of_kind close ∷ [])
one_token (listed opening close g) = an_item g (one_token g) (of_kind close ∷ []) (of_kind Comma ∷ of_kind close ∷ []) && not (same_kind Comma close)
one_token other = true
