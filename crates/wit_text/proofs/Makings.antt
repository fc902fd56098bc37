-- Steps of reading, one after another, and what is made of what they give.
use Rattle.std.proofs.Common.{◌≡◌, ap, ◌∙◌, sym, arith, refl}
use Rattle.std.specs.Prelude.{Ok}
use Rattle.wit_lex.specs.declared.fault.ReadError.{ReadError}
use Rattle.wit_lex.specs.declared.fault.ReadError.TheVariants.{Fault, OutOfMemory}
use Rattle.wit_lex.specs.Lexis.{Stops}
use Rattle.wit_grammar.specs.Leaves.{Read, Spot, ◌>>=◌}
use Rattle.wit_grammar.specs.Grammar.{Gram, act, both, run}
use Rattle.wit_grammar.proofs.LeafReads.{bind_ok, same_value}
use Rattle.wit_reader.specs.declared.reader.Reader.{Reader}
use Rattle.wit_reader.specs.Reading.{Parses, ParsesOn, spot}
use Rattle.wit_reader.proofs.Courses.{made, made_twice}

-- a course that is the same as another
pub same_parsed : {A : Type 0} {a b : Reader} {one other : Read A} {v : A} → one ≡ other → Parses a other v b → Parses a one v b
same_parsed h p = record { source = p.source; offset = p.offset; onward = p.onward; parses = h ∙ p.parses }

pub same_answer : {A : Type 0} {a b : Reader} {course : Read A} {x y : A} → x ≡ y → Parses a course x b → Parses a course y b
same_answer {A} {a} {b} h p = record { source = p.source; offset = p.offset; onward = p.onward; parses = p.parses ∙ ap (λ v. Ok (v, spot b)) h }

pub same_stops : {A : Type 0} {one other : Read A} (e : ReadError) → one ≡ other → Stops other e → Stops one e
same_stops (Fault f start end) h k = h ∙ k
same_stops OutOfMemory h k = tt

-- what stops it stops what is made of it
pub made_stops : {A B : Type 0} (make : A → B) (g : Gram A) (s : Spot) (e : ReadError) → Stops (run g s) e → Stops (run (act make g) s) e
made_stops make g s (Fault f start end) h = rw h refl
made_stops make g s OutOfMemory h = tt

-- of a value an answer was made
abbrev pair : {A : Type 0} → A → Spot → A × Spot
pair v s = (v, s)

pub value_on : {A B : Type 0} {old new : Reader} {r : Read A} {make : A → B} {answer : B} → ParsesOn old (r >>= made make) answer new → (v : A) × ParsesOn old r v new × (answer ≡ make v)
value_on {A} {B} {old} {new} {r} {make} {answer} p =
    let b = bind_ok r (made make) (pair answer (spot new)) p.parses in
    let same = same_value (pair (make b.0.0) b.0.1) (pair answer (spot new)) b.2 in
    (b.0.0, record { source = p.source; offset = p.offset; onward = p.onward; parses = b.1 ∙ ap (λ m. Ok (b.0.0, m)) (ap (λ y. y.1) same) }, sym (ap (λ y. y.0) same))

pub acted : {A B : Type 0} {a b : Reader} {v : A} (make : A → B) (g : Gram A) → Parses a (run g (spot a)) v b → Parses a (run (act make g) (spot a)) (make v) b
acted make g p = record { source = p.source; offset = p.offset; onward = p.onward; parses = rw p.parses refl }

-- what is made of what was made
pub wrapped : {A B C : Type 0} {a b : Reader} {y : B} (wrap : B → C) (make : A → B) (g : Gram A) → Parses a (run (act make g) (spot a)) y b → Parses a (run (act (λ x. wrap (make x)) g) (spot a)) (wrap y) b
wrapped {A} {B} {C} {a} {b} wrap make g p = record {
  source = p.source;
  offset = p.offset;
  onward = p.onward;
  parses = sym (made_twice wrap make (run g (spot a))) ∙ ap (λ (r : Read B). r >>= made wrap) p.parses;
}

-- one after the other
pub both_parsed : {A B C D : Type 0} {a b c : Reader} {x : A} {y : B} (make : C → D) (f : A → B → C) (g : Gram A) (h : Gram B) →
    Parses a (run g (spot a)) x b → Parses b (run h (spot b)) y c → Parses a (run (act make (both f g h)) (spot a)) (make (f x y)) c
both_parsed make f g h p q =
    let one = p.onward in
    let two = q.onward in
    record { source = q.source ∙ p.source; offset = q.offset ∙ p.offset; onward = omega arith; parses = rw (p.parses, q.parses) refl }

pub both_stops : {A B C : Type 0} {a b : Reader} {x : A} (f : A → B → C) (g : Gram A) (h : Gram B) (e : ReadError) →
    Parses a (run g (spot a)) x b → Stops (run h (spot b)) e → Stops (run (both f g h) (spot a)) e
both_stops f g h (Fault k start end) p q = rw (p.parses, q) refl
both_stops f g h OutOfMemory p q = tt

pub both_first : {A B C : Type 0} (f : A → B → C) (g : Gram A) (h : Gram B) (s : Spot) (e : ReadError) → Stops (run g s) e → Stops (run (both f g h) s) e
both_first f g h s (Fault k start end) p = rw p refl
both_first f g h s OutOfMemory p = tt
