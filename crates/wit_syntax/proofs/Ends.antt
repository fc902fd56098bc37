-- Where a name ends by what it means.
use Rattle.std.proofs.Common.{Option, None}
use Rattle.std.specs.Option.{option_map_or, unwrap_or}
use Rattle.wit_syntax.specs.Address.{Address}
use Rattle.wit_syntax.specs.NameEnds.{End, named_end}
use Rattle.wit_syntax.specs.Shape.{Shape}
use Rattle.wit_syntax.specs.Source.{ScopeName, local_name, about_name}

abbrev pub meant_end : (Address → Shape → Option End) → Address → Option ScopeName → Option End
meant_end ends s x = option_map_or (λ (x : ScopeName). named_end (ends (unwrap_or (about_name x).from s)) s (local_name x) (about_name x).body.form (about_name x).body.parts) x None
