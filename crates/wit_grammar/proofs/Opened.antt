-- Rules and steps of reading, opened for proofs that compute with them: such a proof unfolds these names.
use Rattle.std.proofs.Common.{ℕ}
use Rattle.semver.specs.Parse.{digits_from}
use Rattle.wit_lex.specs.Lexis.{first_token, skipped, run_end, word_kind}
use Rattle.wit_lex.specs.DocsLexis.{docs_from, comments}
use Rattle.wit_lex.specs.VersionLexis.{version_to, dotted_end}
use Rattle.wit_grammar.specs.TokenKinds.{same_kind}
use Rattle.wit_grammar.specs.Leaves.{past, mark_at, spanned_at, text_at, name_at, name_but_at, number_at, version_at, docs_at, primitive_at, deeper_at, nothing_at}
use Rattle.wit_grammar.specs.Grammar.{until_at, open_at, next_at, items_at, listed_at}
use Rattle.wit_grammar.specs.Rules.{label, size, lists, maps_of, options, error_type, result_types, results, tuples, payload, futures, streams, handled, owns, borrows, types, param, params, returned, signature, func_word, accessor, form, function, since_version, of_feature, since_attribute, unstable_attribute, deprecated_attribute, after_at, attribute, attributes, prefix, at_version, item_path, rest_of_path, path, local, used_name, used_names, used, top_used}
use Rattle.wit_grammar.specs.ItemRules.{alias_definition, field, record_definition, flag, flags_definition, case_type, case, variant_definition, enum_definition, closed_function, closed_signature, constructed, is_static, member, resource_function, braced_functions, resource_body, resource_definition, definition, named_function, interface_item, interface_items, interface_rule, after_second, extern_path, get_or_set, worded_function, inline_items, after_colon, extern_kind, side, extern, renamed, maybe_semicolon, renames, include, world_item, world_items, world_rule, declaration, two_names, package_names, braced, package_to, item_to, package_first, beginning, items_to_end, file}

-- the rules of types, opened
unfoldable pub type_rules : ℕ
unfolding same_kind size lists maps_of options error_type result_types results tuples payload futures streams handled owns borrows
type_rules = 0

-- those of functions
unfoldable pub function_rules : ℕ
unfolding same_kind label param params returned signature func_word accessor form function closed_signature closed_function
function_rules = 0

-- those of what items have in front, of paths and uses
unfoldable pub prefix_rules : ℕ
unfolding same_kind label since_version of_feature since_attribute unstable_attribute deprecated_attribute after_at attribute attributes prefix at_version item_path rest_of_path path local used_name used_names used top_used
prefix_rules = 0

-- those of definitions
unfoldable pub definition_rules : ℕ
unfolding same_kind label signature params param returned alias_definition field record_definition flag flags_definition case_type case variant_definition enum_definition closed_signature constructed is_static member resource_function braced_functions resource_body resource_definition definition
definition_rules = 0

-- those of worlds
unfoldable pub extern_rules : ℕ
unfolding same_kind label signature params param returned func_word accessor closed_signature after_second extern_path get_or_set worded_function inline_items after_colon extern_kind side extern renamed maybe_semicolon renames include
extern_rules = 0

-- all of them, and what reads by them
unfoldable pub all_rules : ℕ
unfolding type_rules types function_rules prefix_rules definition_rules extern_rules named_function interface_item interface_items interface_rule world_item world_items world_rule declaration two_names package_names braced package_to item_to package_first beginning items_to_end file
all_rules = 0

unfoldable pub reading : ℕ
unfolding first_token skipped run_end word_kind docs_from comments version_to dotted_end digits_from past mark_at spanned_at text_at name_at name_but_at number_at version_at docs_at primitive_at deeper_at nothing_at until_at open_at next_at items_at listed_at
reading = 0
