use Rattle.wit_maps.proofs.Indexed.{known_more}
use Rattle.wit_maps.proofs.index.find_or_note.Goals as goal

pub returns-in-Room-clause-kept : goal.returns-in-Room-clause-kept
returns-in-Room-clause-kept g c = record {
  apart = c.requires.apart;
  known = λ j k below at. known_more g.K.PartialEq.eq g.K.Ord.cmp g.K.Hash.hash_input c.args.index.now.slots.items c.take.new.slots.items c.args.index.now.keys c.args.index.now.keys k j c.take.ensures.len c.take.ensures.filled (λ e. e) (c.requires.known j k below at);
}
