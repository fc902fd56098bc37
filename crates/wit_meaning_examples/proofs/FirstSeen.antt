-- What occurs for the first time, given by marks, and the entries of it, one after the other.
use Rattle.std.proofs.Common.{◌≡◌, ℕ, zero, suc, Bool, true, false, not, ◌&&◌, List, [], ◌∷◌, ◌++◌, Some, inr, refl, sym, ap, ◌∙◌, subst, append_assoc, Contains}
use Rattle.wit_arena.proofs.Common.{Address, AreAt, BorrowForm, Collects, Decls, Def, Exprs, ForeignNamed, Form, GivesPlaces, InlineAt, InterfaceNamed, IsOccurrence, IsSeen, Key, ListForm, Occurrence, ResultForm, ScopeName, Span, Stability, TypeDef, TypeDefKind, Whole, WorldNamed, about_name, and_parts, append-nil, bytes_eq, contains_at, differ_none, first_known, keys, keys-append, kind_of, local_name, map, name_exprs, name_itself, named, occurrence_more, slice_get, stability_at, types_of, unnamed}
use Rattle.wit_arena.specs.Occurrences.{settled}
use Rattle.wit_arena.proofs.DefinitionPart.{kind_stated}
use Rattle.wit_arena.proofs.Placing.{all_at-types_of}
use Rattle.wit_types.specs.declared.types.«Type».{«Type» as Ty}

-- a mark of a scope, of a form, and of what occurs: it says some of it
abbrev scope_mark : Address → List ℕ
scope_mark (InterfaceNamed name) = 0 ∷ name
scope_mark (WorldNamed name) = 1 ∷ name
scope_mark (InlineAt world side place) = 2 ∷ place ∷ world
scope_mark (ForeignNamed p name) = 3 ∷ name

abbrev bit : Bool → ℕ
bit true = 1
bit false = 0

abbrev form_mark : Form → List ℕ
form_mark BorrowForm = 0 ∷ []
form_mark ListForm = 1 ∷ []
form_mark (ResultForm has_ok has_err) = 2 ∷ bit has_ok ∷ bit has_err ∷ []
form_mark _ = 3 ∷ []

abbrev pub key_mark : Key → List ℕ
key_mark (Def s name) = 0 ∷ scope_mark s ++ 256 ∷ name
key_mark (Whole form parts) = 1 ∷ form_mark form

-- whether none of these has the mark
abbrev pub is_new : List ℕ → List Key → Bool
is_new mark [] = true
is_new mark (k ∷ ks) = not (bytes_eq mark (key_mark k)) && is_new mark ks

-- what has another mark than all that occurred is new
pub fresh : (ks : List Key) (k : Key) → is_new (key_mark k) ks ≡ true → IsSeen ks k → ⊥
fresh [] k new (i, at) = let f : ⊥ = cc in f
fresh (x ∷ ks) k new (zero, at) =
    let same : x ≡ k = cc in
    let hit : bytes_eq (key_mark k) (key_mark x) ≡ true = ap (λ y. bytes_eq (key_mark k) (key_mark y)) same ∙ name_itself (key_mark k) in
    let wrong : false ≡ true = sym (ap not hit) ∙ (and_parts (not (bytes_eq (key_mark k) (key_mark x))) (is_new (key_mark k) ks) new).0 in
    let f : ⊥ = cc in
    f
fresh (x ∷ ks) k new (suc i, at) = fresh ks k (and_parts (not (bytes_eq (key_mark k) (key_mark x))) (is_new (key_mark k) ks) new).1 (i, at)

-- whether none of what occurs next has the mark of what occurred before
abbrev pub are_new : List Key → List Occurrence → Bool
are_new ks [] = true
are_new ks (m ∷ ms) = is_new (key_mark m.key) ks && are_new (ks ++ m.key ∷ []) ms

-- so each of it is a first occurrence
pub collects_each : (ms more : List Occurrence) → are_new (keys ms) more ≡ true → Collects ms more (ms ++ more)
collects_each ms [] new = append-nil ms
collects_each ms (m ∷ more) new =
    let both = and_parts (is_new (key_mark m.key) (keys ms)) (are_new (keys ms ++ m.key ∷ []) more) new in
    let next : are_new (keys (ms ++ m ∷ [])) more ≡ true = ap (λ ks. are_new ks more) (keys-append ms (m ∷ [])) ∙ both.1 in
    inr (fresh (keys ms) m.key both.0, subst (Collects (ms ++ m ∷ []) more) (append_assoc ms (m ∷ []) more) (collects_each (ms ++ m ∷ []) more next))

-- before anything occurs the arena is empty
pub none_seen : (decls : Decls) → IsOccurrence decls [] []
none_seen decls = record { count = refl; once = differ_none; named = λ i m s name at is. absurd (let f : ⊥ = cc in f); each = λ i m e at there id gives. absurd (let f : ⊥ = cc in f) }

-- a name of a scope has the next entry, over the places of its parts
pub seen_named : {decls : Decls} {ms : List Occurrence} {es : List TypeDef} (s : Address) (k : ℕ) (x : ScopeName) (kind : TypeDefKind) → IsOccurrence decls ms es → is_new (key_mark (Def s (local_name x))) (keys ms) ≡ true → slice_get (decls s).0 k ≡ Some x → (kind_of kind).0 ≡ (about_name x).body.form → AreAt (keys ms) (name_exprs s x) (kind_of kind).1 → IsOccurrence decls (ms ++ record { key = Def s (local_name x); span = (about_name x).span; given = (about_name x).metadata.stability } ∷ []) (es ++ named (decls s).1 (local_name x) kind (about_name x).metadata (about_name x).span ∷ [])
seen_named {decls} {ms} {es} s k x kind before new at form parts =
    let m : Occurrence = record { key = Def s (local_name x); span = (about_name x).span; given = (about_name x).metadata.stability } in
    let owned = contains_at (decls s).0 k x at in
    occurrence_more m (named (decls s).1 (local_name x) kind (about_name x).metadata (about_name x).span) before (fresh (keys ms) m.key new) (λ t n same. (let at : s ≡ t = cc in let called : local_name x ≡ n = cc in (x, subst (λ (z : Address). Contains (decls z).0 x) at owned, called, refl)))
    (λ id gives. (x, kind, owned, refl, kind_stated (kind_of kind) (about_name x).body.form (types_of id (name_exprs s x)) form (all_at-types_of id (keys ms) gives (name_exprs s x) (kind_of kind).1 parts), refl))

-- and so has an unnamed type
pub seen_unnamed : {decls : Decls} {ms : List Occurrence} {es : List TypeDef} (form : Form) (parts : Exprs) (kind : TypeDefKind) (given : Stability) (span : Span) → IsOccurrence decls ms es → is_new (key_mark (Whole form parts)) (keys ms) ≡ true → (kind_of kind).0 ≡ form → AreAt (keys ms) parts (kind_of kind).1 → IsOccurrence decls (ms ++ record { key = Whole form parts; span = span; given = given } ∷ []) (es ++ unnamed kind (settled es given kind) span ∷ [])
seen_unnamed {decls} {ms} {es} form parts kind given span before new of are =
    let m : Occurrence = record { key = Whole form parts; span = span; given = given } in
    let types : (id : Key → ℕ) → GivesPlaces id (keys ms) → (kind_of kind).1 ≡ types_of id parts = λ id gives. all_at-types_of id (keys ms) gives parts (kind_of kind).1 are in
    occurrence_more m (unnamed kind (settled es given kind) span) before (fresh (keys ms) m.key new) (λ s name same. absurd (let f : ⊥ = cc in f)) (λ id gives. (kind, kind_stated (kind_of kind) form (types_of id parts) of (types id gives), ap (λ (ts : List Ty). unnamed kind (first_known (given ∷ map (stability_at es) ts)) span) (types id gives)))
