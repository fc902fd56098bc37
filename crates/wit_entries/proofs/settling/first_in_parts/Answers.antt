use Rattle.std.proofs.Common.{sym, ◌∙◌}
use Rattle.wit_entries.proofs.Settled.{slots_determine}
use Rattle.wit_entries.proofs.settling.first_in_parts.Goals as goal

pub returns-in_default : goal.returns-in_default
returns-in_default c = c.first_in_slots.ensures ∙ sym (slots_determine c.args.types.now c.args.kind.now c.in_default.not-Handle)
