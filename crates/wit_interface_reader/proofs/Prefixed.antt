-- Items after what is before them.
use Rattle.std.proofs.Common.{◌≡◌, ap, ◌∙◌, arith, refl}
use Rattle.std.specs.Prelude.{Ok, Err}
use Rattle.wit_lex.specs.declared.fault.ReadError.{ReadError}
use Rattle.wit_lex.specs.declared.fault.ReadError.TheVariants.{Fault, OutOfMemory}
use Rattle.wit_lex.specs.Lexis.{Stops}
use Rattle.wit_grammar.specs.Leaves.{Spot, Read, ◌>>=◌}
use Rattle.wit_grammar.specs.Grammar.{Gram, act, both, run}
use Rattle.wit_reader.specs.declared.reader.Reader.{Reader}
use Rattle.wit_reader.specs.Reading.{ParsesOn, Parses, spot}
use Rattle.wit_reader.proofs.Courses.{made}

-- what takes the prefix yet
abbrev pub put : {F C : Type 0} → F → (F → C) → C
put f x = x f

-- what is made of a value with its prefix, or of what the value is made into
made_of : {A B C F : Type 0} (make : A → B) (wrap : B → C) (way : A → F → C) (f : F) (r : Read A) (y : B) (e : Spot) → ((x : A) → way x f ≡ wrap (make x)) → (r >>= made make) ≡ Ok (y, e) →
    ((r >>= made way) >>= made (put f)) ≡ Ok (wrap y, e)
made_of make wrap way f (Ok x) y e same h = ap (λ z. Ok (z, x.1)) (same x.0) ∙ ap (λ r. r >>= made wrap) h
made_of make wrap way f (Err k) y e same h = ap (λ r. r >>= made wrap) h

-- which way it goes on, and what is made there
pub read_after : {F A B C : Type 0} {a b c : Reader} {f : F} {y : B} (prefix : Gram F) (rest : Gram (F → C)) (item : Gram A) (make : A → B) (wrap : B → C) (way : A → F → C) →
    run rest (spot b) ≡ run (act way item) (spot b) → ((x : A) → way x f ≡ wrap (make x)) →
    ParsesOn a (run prefix (spot a)) f b → Parses b (run (act make item) (spot b)) y c → Parses a (run (both (λ f x. x f) prefix rest) (spot a)) (wrap y) c
read_after {F} {A} {B} {C} {a} {b} {c} {f} {y} prefix rest item make wrap way goes same r s =
    let one = r.onward in
    let two = s.onward in
    record {
      source = s.source ∙ r.source;
      offset = s.offset ∙ r.offset;
      onward = omega arith;
      parses = rw (r.parses, goes) (made_of make wrap way f (run item (spot b)) y (spot c) same s.parses);
    }

pub stops_after : {F A C : Type 0} {a b : Reader} {f : F} (prefix : Gram F) (rest : Gram (F → C)) (item : Gram A) (way : A → F → C) (e : ReadError) →
    run rest (spot b) ≡ run (act way item) (spot b) → ParsesOn a (run prefix (spot a)) f b → Stops (run item (spot b)) e → Stops (run (both (λ f x. x f) prefix rest) (spot a)) e
stops_after prefix rest item way (Fault k start end) goes r h = rw (r.parses, goes, h) refl
stops_after prefix rest item way OutOfMemory goes r h = tt
