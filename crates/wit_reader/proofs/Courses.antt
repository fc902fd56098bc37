-- Courses, one after another: what is made of what they give, and where they stop.
use Rattle.std.proofs.Common.{◌≡◌, [], ◌∷◌, ap, sym, refl, true, false, Bool}
use Rattle.std.specs.Prelude.{◌||◌, Result, Ok, Err, IfErr}
use Rattle.std.proofs.lemmas.Result.{IfErr-weaker}
use Rattle.wit_lex.specs.declared.fault.ReadError.{ReadError}
use Rattle.wit_lex.specs.declared.fault.ReadError.TheVariants.{Fault, OutOfMemory}
use Rattle.wit_lex.specs.Lexis.{lexeme, Stops}
use Rattle.wit_grammar.specs.Leaves.{Spot, Read, ◌>>=◌}
use Rattle.wit_grammar.specs.Grammar.{Gram, Terminal, either, first, matches, run, starts}
use Rattle.wit_reader.specs.declared.reader.Reader.{Reader}
use Rattle.wit_reader.specs.Reading.{Parses, spot}

-- what is made of a value that was read
abbrev pub made : {A B : Type 0} → (A → B) → A × Spot → Read B
made make x = Ok (make x.0, x.1)

pub made_twice : {A B C : Type 0} (g : B → C) (f : A → B) (r : Read A) → ((r >>= made f) >>= made g) ≡ (r >>= made (λ x. g (f x)))
made_twice g f (Ok x) = refl
made_twice g f (Err e) = refl

-- a fault stops a course, and what goes on after it
pub stops_first : {A B : Type 0} (r : Result A ReadError) (f : A → Result B ReadError) (e : ReadError) → Stops r e → Stops (r >>= f) e
stops_first r f (Fault k start end) h = rw h refl
stops_first r f OutOfMemory h = tt

pub stops_at : {A : Type 0} (r : Result A ReadError) (e : ReadError) → r ≡ Err e → Stops r e
stops_at r (Fault k start end) h = h
stops_at r OutOfMemory h = tt

-- one token says which way a grammar goes on
no_more : (b : Bool) → (b || false) ≡ b
no_more true = refl
no_more false = refl

pub starts_with : {A : Type 0} (g : Gram A) (k : Terminal) (r : Reader) (b : Bool) → first g ≡ k ∷ [] → matches k (spot r) (lexeme r.token) ≡ b → starts g (spot r) ≡ b
starts_with g k r b h m = rw (h, r.next, m) (no_more b)

pub first_way : {A : Type 0} (g h : Gram A) (s : Spot) → starts g s ≡ true → run (either g h) s ≡ run g s
first_way g h s e = rw e refl

pub second_way : {A : Type 0} (g h : Gram A) (s : Spot) → starts g s ≡ false → run (either g h) s ≡ run h s
second_way g h s e = rw e refl

-- of a result that is returned as it is
pub stops_made : {A B T : Type 0} (f : A → Result B ReadError) (r : Result A ReadError) (result : Result T ReadError) → IfErr result (Stops r) → IfErr result (Stops (r >>= f))
stops_made f r result h = IfErr-weaker result (Stops r) (Stops (r >>= f)) (λ e. stops_first r f e) h

-- ---- what a value was made of
abbrev pair_of : {A : Type 0} → A → Spot → A × Spot
pair_of x m = (x, m)

abbrev good : {A : Type 0} → A × Spot → Read A
good x = Ok x

same_pair : {A : Type 0} (x y : A × Spot) → good x ≡ good y → x ≡ y
same_pair x y h = cc

made_of : {A B : Type 0} (r : Read A) (make : A → B) (answer : B) (e : Spot) → (r >>= made make) ≡ good (pair_of answer e) → (v : A) × (r ≡ Ok (v, e)) × (answer ≡ make v)
made_of (Ok x) make answer e h =
    let same = same_pair (pair_of (make x.0) x.1) (pair_of answer e) h in
    (x.0, ap (λ m. Ok (x.0, m)) (ap (λ y. y.1) same), sym (ap (λ y. y.0) same))
made_of (Err k) make answer e h = absurd (cc)

-- what was read where an answer was made of it
pub value_read : {A B : Type 0} {old new : Reader} {r : Read A} {make : A → B} {answer : B} → Parses old (r >>= made make) answer new → (v : A) × Parses old r v new × (answer ≡ make v)
value_read {old} {new} {r} {make} {answer} p =
    let m = made_of r make answer (spot new) p.parses in
    (m.0, record { source = p.source; offset = p.offset; onward = p.onward; parses = m.1 }, m.2)
