-- The tokens of arrays and objects from those of their parts.
use Rattle.std.proofs.Common.{◌≡◌, ℕ, List, [], ◌∷◌, ◌++◌, ap, refl, sym, ◌∙◌, append_assoc}
use Rattle.std.specs.Prelude.{Result, OnOk}
use Rattle.std.proofs.lemmas.Result.{on_ok_weaker}
use Rattle.std.specs.List.{flat_map}
use Rattle.json.specs.Token.{Token}
use Rattle.json.specs.Json.{Json}
use Rattle.json.specs.Value.{items_of}
use Rattle.json.specs.Tree.{json_tokens, items_tokens, members_tokens}
use Rattle.wit_json.specs.Values.{members_of, fields, list}
use Rattle.wit_json.specs.ValueTokens.{member_tokens}

pub items_tokens_of : (js : List Json) → items_tokens (items_of js) ≡ flat_map json_tokens js ++ Token.end_array ∷ []
items_tokens_of [] = refl
items_tokens_of (j ∷ js) = ap (λ ts. json_tokens j ++ ts) (items_tokens_of js) ∙ sym (append_assoc (json_tokens j) (flat_map json_tokens js) (Token.end_array ∷ []))

pub members_tokens_of : (ms : List (List ℕ × Json)) → members_tokens (members_of ms) ≡ flat_map member_tokens ms ++ Token.end_object ∷ []
members_tokens_of [] = refl
members_tokens_of (m ∷ ms) = ap (λ ts. Token.key m.0 ∷ (json_tokens m.1 ++ ts)) (members_tokens_of ms) ∙ sym (append_assoc (member_tokens m) (flat_map member_tokens ms) (Token.end_object ∷ []))

-- an array that is closed
pub list_closed : (js : List Json) (a b c d : List Token) → b ≡ a ++ Token.begin_array ∷ [] → c ≡ b ++ flat_map json_tokens js → d ≡ c ++ Token.end_array ∷ [] → d ≡ a ++ json_tokens (list js)
list_closed js a b c d p q r =
    r ∙ ap (λ ts. ts ++ Token.end_array ∷ []) (q ∙ ap (λ ts. ts ++ flat_map json_tokens js) p)
    ∙ append_assoc (a ++ Token.begin_array ∷ []) (flat_map json_tokens js) (Token.end_array ∷ [])
    ∙ append_assoc a (Token.begin_array ∷ []) (flat_map json_tokens js ++ Token.end_array ∷ [])
    ∙ ap (λ ts. a ++ Token.begin_array ∷ ts) (sym (items_tokens_of js))

-- an object that is closed
pub fields_closed : (ms : List (List ℕ × Json)) (a b c d : List Token) → b ≡ a ++ Token.begin_object ∷ [] → c ≡ b ++ flat_map member_tokens ms → d ≡ c ++ Token.end_object ∷ [] → d ≡ a ++ json_tokens (fields ms)
fields_closed ms a b c d p q r =
    r ∙ ap (λ ts. ts ++ Token.end_object ∷ []) (q ∙ ap (λ ts. ts ++ flat_map member_tokens ms) p)
    ∙ append_assoc (a ++ Token.begin_object ∷ []) (flat_map member_tokens ms) (Token.end_object ∷ [])
    ∙ append_assoc a (Token.begin_object ∷ []) (flat_map member_tokens ms ++ Token.end_object ∷ [])
    ∙ ap (λ ts. a ++ Token.begin_object ∷ ts) (sym (members_tokens_of ms))

-- the same after a call that may fail
pub array_closed : {T E : Type 0} (js : List Json) (r : Result T E) (a b c d : List Token) → b ≡ a ++ Token.begin_array ∷ [] → c ≡ b ++ flat_map json_tokens js → OnOk r (d ≡ c ++ Token.end_array ∷ []) → OnOk r (d ≡ a ++ json_tokens (list js))
array_closed js r a b c d p q h = on_ok_weaker r (list_closed js a b c d p q) h
