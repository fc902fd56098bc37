use Rattle.wit_item_entries.proofs.functions.add_function.Goals as goal

pub returns : goal.returns
returns c =
    let text = rw c.in_ok-function.ensures.both.1 at c.from_str-text.ensures.ok in
    rw (c.in_ok-function.ensures.both.0, text, c.as_str.ensures) at c.put.ensures.ok
