use Rattle.wit_ffi.specs.Checked.IsChecked.{Legal}
use Rattle.wit_ffi.proofs.checking.check.Goals as goal

pub returns-in-Ok-Group : goal.returns-in-Ok-Group
returns-in-Ok-Group c =
    let text = c.in-Ok.ensures.cases in
    let bare = c.bare-in-Ok-Group.ensures in
    Legal bare.status text.1 c.in-Ok-Group.field-0-0 (rw (text.0, c.in-Ok-Group.field-0-is) at c.in-Ok-Group.ensures) bare.plain
