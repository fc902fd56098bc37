use Rattle.wit_resolved.proofs.Validity.{backward_of}
use Rattle.wit_resolved.proofs.function_ref.FunctionRef.find_futures_and_streams.Goals as goal

pub find_futures_and_streams-requires : goal.find_futures_and_streams-requires
find_futures_and_streams-requires c = backward_of _ c.args.self.now.valid
