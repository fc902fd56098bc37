use Rattle.std.proofs.Common.{◌≡◌, ℕ, List, ◌++◌, rules, true, false, inl, inr, sym, subst, ◌∙◌}
use Rattle.wit_syntax.proofs.Common.{IfOk, codes, getter_of, is_setter, string_bytes}
use Rattle.wit_refusals.specs.KeyedNames.{HasName, names_of}
use Rattle.wit_refusals.proofs.Scoping.{is_mangled-getter}
use Rattle.wit_refusals.proofs.name_scope.check_setter.Goals as goal

pub has_name-requires-clause-mangled : goal.has_name-requires-clause-mangled
has_name-requires-clause-mangled c =
    let sets : is_setter c.args.name.now ≡ true = search rules in
    rw (c.as_str.ensures.value, c.in_ok-getter.ensures) (is_mangled-getter c.args.name.now sets)

pub returns-clause-refused : goal.returns-clause-refused
returns-clause-refused c =
    let sets : is_setter c.args.name.now ≡ true = search rules in
    let getter : c.as_str.result.now ≡ getter_of c.args.name.now = c.as_str.ensures.value ∙ c.in_ok-getter.ensures in
    let words = λ (getter : List ℕ). codes "setter `" ++ (c.args.name.now ++ (codes "` has no corresponding getter `" ++ (getter ++ codes "`"))) in
    let said = subst (λ (getter : List ℕ). IfOk c.lone_setter-words.result (λ text. string_bytes text ≡ words getter)) (c.as_str-2.ensures.value ∙ c.in_ok-getter.ensures) c.lone_setter-words.ensures in
    elim (c.refuse_in.ensures (words (getter_of c.args.name.now)) said) [
      | inl memory ↦ inl memory
      | inr says ↦ inr (sets, (λ has. (let found : c.in_ok-has_name.field-0 ≡ true = c.in_ok-has_name.ensures.1 (subst (λ (n : List _). HasName (names_of c.args.names.now) n) (sym getter) has) in let wrong : true ≡ false = sym found ∙ c.if-branch.false in let f : ⊥ = cc in f)), says)
    ]
