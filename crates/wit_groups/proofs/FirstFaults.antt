-- Sources that are refused come to the refusal, and those that make a group to none.
use Rattle.std.proofs.Common.{◌≡◌, ◌⊎◌, ℕ, ◌+◌, ◌<◌, ◌≤◌, suc, true, false, arith, lt-ltb, le-ltb, List, [], ◌∷◌, ◌++◌, Bor, length, get_or, map, take, drop, Option, Some, None, inl, inr, refl, sym, ap, ◌∙◌, subst}
use Rattle.wit_arena.proofs.Common.{AllZip, Err, Fault, IfOk, IsAllocationFailure, ItemNotFound, Ok, OutOfMemory, PackageFile, ParseError, ParseErrorKind, Result, SourceFile, Span, Syntax, TypeCycle, UnresolvedPackage, append-nil, as_stated, codes, fault_in, fault_of, nat_lt, span_of_ends, string_bytes}
use Rattle.wit_lex.specs.declared.fault.ReadFault.{ReadFault}
use Rattle.wit_lex.specs.declared.fault.ReadError.TheVariants.{Fault as Stopped, OutOfMemory as Wanting}
use Rattle.wit_lex.specs.TextFaults.{ReportsFault, rule_of, words_of}
use Rattle.wit_lex.specs.Sources.{IsTooLarge, ReportsTooLarge, space}
use Rattle.wit_lex.specs.declared.source.Source.{Source}
use Rattle.wit_lex.specs.declared.source_map.SourceMap.{SourceMap}
use Rattle.wit_bundle.specs.SourcePaths.{IsByPath}
use Rattle.wit_text.specs.Files.{IsFaultOf}
use Rattle.wit_text.specs.Files.IsFaultOf.{At, Wanted as FaultWanted}
use Rattle.wit_walk.proofs.Common.{Finds, FindsBy, Reports, earliest}
use Rattle.wit_nested.specs.GroupFaults.{FindsJoined, joined_faults}
use Rattle.wit_nested.specs.PushFaults.{IsWalk, files_of, pushes_fault, source_fault}
use Rattle.wit_nested.proofs.Prefixes.{prefix_split}
use Rattle.wit_nested.proofs.Pushes.{a_walk}
use Rattle.wit_groups.specs.declared.group.UnresolvedPackageGroup.{UnresolvedPackageGroup}
use Rattle.wit_groups.specs.Groups.{AreUsed, IsAlone, IsTree, IsUnread}
use Rattle.wit_groups.specs.SourceFaults.{AreStopped, FindsBeside, HaveFirst, IsStop, Read, SequenceComesTo, Stop, TextHasFirst, Tree, size_fault, stop_fault}
use Rattle.wit_groups.proofs.Outcome.{now_of}
use Rattle.wit_groups.proofs.Sequences.{or_at, or_here, sequence_prefix}
use Rattle.wit_groups.proofs.Used.{used_trees}

-- a refusal for the fault at which reading stops, or a failed allocation
stop_said : (stop : ReadFault) (offset from to number : ℕ) (kind : ParseErrorKind) → ReportsFault stop (offset + from) (offset + to) number kind → ((kind ≡ OutOfMemory) × (number ≡ 45)) ⊎ (stop_fault offset stop from to ≡ as_stated number kind)
stop_said stop offset from to number (Syntax span message) it = inr (sym (
    ap (λ (n : ℕ). fault_in n span (string_bytes message)) it.rule
    ∙ ap (λ (words : List ℕ). fault_in (rule_of stop) span words) it.words
    ∙ ap (λ (at : Span). fault_in (rule_of stop) at (words_of stop)) (span_of_ends span (offset + from) (offset + to) it.start it.end)))
stop_said stop offset from to number (ItemNotFound span name sort hint) it = absurd it
stop_said stop offset from to number (TypeCycle span name sort) it = absurd it
stop_said stop offset from to number OutOfMemory it = inl (refl, it)

module _ (walk : List PackageFile → Option Fault) (walks : IsWalk walk) where
  -- sources come to a refusal
  abbrev ComeTo : List Source → ParseError → Type 0
  ComeTo ordered e = IsAllocationFailure e ⊎ ((reads : List Read) × SequenceComesTo walk [] ordered reads (Some (fault_of e)))

  -- one that cannot be read
  unread_stops : (prefix rest : List Source) (s : Source) (trees : List SourceFile) (e : ParseError) → AllZip IsTree prefix trees → pushes_fault walk trees ≡ None → IsFaultOf (string_bytes s.contents) s.offset e → ComeTo (prefix ++ s ∷ rest) e
  unread_stops prefix rest s trees e each none (FaultWanted wanted) = inl wanted
  unread_stops prefix rest s trees e each none (At Wanting runs within refusal) = inl refusal
  unread_stops prefix rest s trees e each none (At (Stopped stop from to) runs within refusal) = elim (stop_said stop s.offset from to e.rule e.kind refusal) [
    | inl wanted ↦ inl (record { kind = wanted.0; rule = wanted.1 })
    | inr is ↦ (
        let own : IsStop s (fault_of e) = (stop, from, to, runs, sym is) in
        inr (map Tree trees ++ Stop (fault_of e) ∷ [], sequence_prefix walk [] prefix trees (s ∷ rest) (Stop (fault_of e) ∷ []) (Some (fault_of e)) each none (own, refl)))
  ]

  -- one that cannot be pushed
  unfit_stops : (prefix rest : List Source) (s : Source) (trees : List SourceFile) (read : SourceFile) (e : ParseError) → AllZip IsTree prefix trees → pushes_fault walk trees ≡ None → IsTree s read → Reports (source_fault walk (files_of trees) read) e → ComeTo (prefix ++ s ∷ rest) e
  unfit_stops prefix rest s trees read e each none tree (inl wanted) = inl wanted
  unfit_stops prefix rest s trees read e each none tree (inr is) =
      let later = SequenceComesTo walk (trees ++ read ∷ []) rest [] in
      inr (map Tree trees ++ Tree read ∷ [], sequence_prefix walk [] prefix trees (s ∷ rest) (Tree read ∷ []) (Some (fault_of e)) each none (tree, or_here (source_fault walk (files_of trees) read) later (fault_of e) is))

  -- all are read and pushed
  pub joined_comes : (ordered : List Source) (trees : List SourceFile) (first : Option Fault) → AllZip IsTree ordered trees → pushes_fault walk trees ≡ None → earliest (joined_faults walk trees) ≡ first → (reads : List Read) × SequenceComesTo walk [] ordered reads first
  joined_comes ordered trees first each none is = (map Tree trees ++ [], subst (λ (l : List Source). SequenceComesTo walk [] l (map Tree trees ++ []) first) (append-nil ordered) (sequence_prefix walk [] ordered trees [] [] first each none (sym is)))

-- a source that cannot be read, or pushed
pub read_stops : (turn : List (Bor Source)) (i : ℕ) (s : Bor Source) (files : List PackageFile) (packages : List UnresolvedPackage) (e : ParseError) → i < length turn → s ≡ get_or turn i s → AreUsed (map now_of (take i turn)) files packages → IsUnread s.now e → AreStopped (map now_of turn) e
read_stops turn i s files packages e lt is used refused walk walks =
    let prefix = map now_of (take i turn) in
    let rest = map now_of (drop (suc i) turn) in
    let it = used_trees walk walks prefix files packages used in
    subst (λ (l : List Source). IsAllocationFailure e ⊎ ((reads : List Read) × SequenceComesTo walk [] l reads (Some (fault_of e)))) (sym (prefix_split now_of turn i s lt is)) (unread_stops walk walks prefix rest s.now it.trees e it.each it.none refused.fault)

pub push_stops : (turn : List (Bor Source)) (i : ℕ) (s : Bor Source) (files : List PackageFile) (packages : List UnresolvedPackage) (read : SourceFile) (e : ParseError) → i < length turn → s ≡ get_or turn i s → AreUsed (map now_of (take i turn)) files packages → IsTree s.now read → ((walk : List PackageFile → Option Fault) → IsWalk walk → Reports (source_fault walk files read) e) → AreStopped (map now_of turn) e
push_stops turn i s files packages read e lt is used tree first walk walks =
    let prefix = map now_of (take i turn) in
    let rest = map now_of (drop (suc i) turn) in
    let it = used_trees walk walks prefix files packages used in
    let own = subst (λ (fs : List PackageFile). Reports (source_fault walk fs read) e) it.files_are (first walk walks) in
    subst (λ (l : List Source). IsAllocationFailure e ⊎ ((reads : List Read) × SequenceComesTo walk [] l reads (Some (fault_of e)))) (sym (prefix_split now_of turn i s lt is)) (unfit_stops walk walks prefix rest s.now it.trees read e it.each it.none tree own)

-- sources by path come to a refusal
pub stopped_first : (sources ordered : List Source) (e : ParseError) → IsByPath sources ordered → AreStopped ordered e → IsAllocationFailure e ⊎ HaveFirst sources (Some (fault_of e))
stopped_first sources ordered e by_path stops = elim (stops a_walk.0 a_walk.1) [
  | inl wanted ↦ inl wanted
  | inr it ↦ inr (it.0, record { ordered = ordered; by_path = by_path; walk = a_walk.0; walks = a_walk.1; is = it.1 })
]

-- or to what is found in all files
pub joined_first : {T : Type 0} (sources ordered : List Source) (files : List PackageFile) (packages : List UnresolvedPackage) (r : Result T ParseError) → IsByPath sources ordered → AreUsed ordered files packages → FindsJoined files packages r → FindsBy (HaveFirst sources) r
joined_first sources ordered files packages r by_path used joined =
    let it = used_trees a_walk.0 a_walk.1 ordered files packages used in
    by r (joined it.trees (sym it.files_are) it.made a_walk.0 a_walk.1)
  where
    come : (trees : List SourceFile) (first : Option Fault) → AllZip IsTree ordered trees → pushes_fault a_walk.0 trees ≡ None → earliest (joined_faults a_walk.0 trees) ≡ first → HaveFirst sources first
    come trees first each none is = (let it = joined_comes a_walk.0 a_walk.1 ordered trees first each none is in (it.0, record { ordered = ordered; by_path = by_path; walk = a_walk.0; walks = a_walk.1; is = it.1 }))

    by : {T : Type 0} (q : Result T ParseError) → Finds (earliest (joined_faults a_walk.0 (used_trees a_walk.0 a_walk.1 ordered files packages used).trees)) q → FindsBy (HaveFirst sources) q
    by (Ok x) none = (let it = used_trees a_walk.0 a_walk.1 ordered files packages used in come it.trees None it.each it.none none)
    by (Err e) (inl wanted) = inl wanted
    by (Err e) (inr is) = inr (let it = used_trees a_walk.0 a_walk.1 ordered files packages used in come it.trees (Some (fault_of e)) it.each it.none is)

-- the sources of a map
pub faultless_of : (own sources : List Source) → own ≡ sources → HaveFirst own None → HaveFirst sources None
faultless_of own sources same it = subst (λ (l : List Source). HaveFirst l None) same it

pub beside : (own sources : List Source) (e : ParseError) → own ≡ sources → IsAllocationFailure e ⊎ HaveFirst own (Some (fault_of e)) → IsAllocationFailure e ⊎ HaveFirst sources (Some (fault_of e))
beside own sources e same it = subst (λ (l : List Source). IsAllocationFailure e ⊎ HaveFirst l (Some (fault_of e))) same it

-- a text that makes a group
pub text_faultless : (map : SourceMap) (r : Result UnresolvedPackageGroup (SourceMap × ParseError)) → FindsBeside (HaveFirst map.sources.items) r → IfOk r (λ g. g.source_map ≡ map) → IfOk r (λ g. HaveFirst g.source_map.sources.items None)
text_faultless map (Ok g) it kept = subst (λ (m : SourceMap). HaveFirst m.sources.items None) (sym kept) it
text_faultless map (Err e) it kept = tt

-- a text that is too large
abbrev pub TextStops : (path text : List ℕ) → ParseError → Type 0
TextStops path text e = IsAllocationFailure e ⊎ TextHasFirst path text (Some (fault_of e))

pub size_stops : (path text : List ℕ) (e : ParseError) (kind : ParseErrorKind) → e.kind ≡ kind → ReportsTooLarge (length text + 1) e.rule kind → TextStops path text e
size_stops path text e (Syntax span message) is h =
    let none : Span = record { start = 0; end = 0 } in
    let too_large = codes "sources too large" in
    let past : nat_lt 4294967295 (length text + 1) ≡ true = lt-ltb 4294967295 (length text + 1) h.1 in
    let large : size_fault text ≡ Some (fault_in 52 none too_large) = rw past refl in
    let words = string_bytes message in
    let said : fault_of e ≡ fault_in 52 none too_large = ap (as_stated e.rule) is ∙ ap (λ (n : ℕ). fault_in n span words) h.0 ∙ ap (λ (w : List ℕ). fault_in 52 span w) h.4 ∙ ap (λ (at : Span). fault_in 52 at too_large) (span_of_ends span 0 0 h.2 h.3) in
    inr ([], or_here (size_fault text) _ (fault_of e) (large ∙ ap Some (sym said)))
size_stops path text e (ItemNotFound span name sort hint) is h = absurd h
size_stops path text e (TypeCycle span name sort) is h = absurd h
size_stops path text e OutOfMemory is h = inl (record { kind = is; rule = h })

pub text_too_large : (path text : List ℕ) (sources : List Source) (e : ParseError) → sources ≡ [] → IsTooLarge (space sources + length text + 1) e → TextStops path text e
text_too_large path text sources e none it =
    let nothing : space sources ≡ 0 = ap space none in
    let all : space sources + length text + 1 ≡ length text + 1 = omega arith in
    size_stops path text e e.kind refl (subst (λ (n : ℕ). IsTooLarge n e) all it).gives

-- and one that is not
text_fits : (text : List ℕ) (sources : List Source) → sources ≡ [] → space sources + length text + 1 ≤ 4294967295 → size_fault text ≡ None
text_fits text sources none fits =
    let nothing : space sources ≡ 0 = ap space none in
    let within : length text + 1 ≤ 4294967295 = omega arith in
    let below : nat_lt 4294967295 (length text + 1) ≡ false = le-ltb 4294967295 (length text + 1) within in
    rw below refl

pub text_finds : (path text : List ℕ) (sources : List Source) (map : SourceMap) (r : Result UnresolvedPackageGroup (SourceMap × ParseError)) → sources ≡ [] → space sources + length text + 1 ≤ 4294967295 → IsAlone path text map.sources.items → FindsBeside (HaveFirst map.sources.items) r → FindsBeside (TextHasFirst path text) r
text_finds path text sources map r none fits alone it = by r it
  where
    comes : (first : Option Fault) → HaveFirst map.sources.items first → TextHasFirst path text first
    comes first own = (own.0, or_at (size_fault text) _ first (text_fits text sources none fits) (map.sources.items, alone, own.1))

    by : (q : Result UnresolvedPackageGroup (SourceMap × ParseError)) → FindsBeside (HaveFirst map.sources.items) q → FindsBeside (TextHasFirst path text) q
    by (Ok g) own = comes None own
    by (Err e) (inl wanted) = inl wanted
    by (Err e) (inr own) = inr (comes (Some (fault_of e.1)) own)
