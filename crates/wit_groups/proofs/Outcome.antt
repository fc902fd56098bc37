-- What sources come to, one more at a time.
use Rattle.std.proofs.Common.{◌≡◌, ℕ, ◌+◌, ◌<◌, suc, List, [], ◌∷◌, ◌++◌, Bor, length, get_or, map, take, drop, inl, inr, ap, sym, subst, ◌∙◌}
use Rattle.wit_arena.proofs.Common.{Err, Fault, IfErr, IfOk, Ok, PackageFile, ParseError, Refused, Result, SourceFile, UnresolvedPackage, string_bytes}
use Rattle.wit_lex.specs.declared.source.Source.{Source}
use Rattle.wit_lex.specs.declared.source_map.SourceMap.{SourceMap}
use Rattle.wit_lex.specs.Sources.{IsSource, space}
use Rattle.wit_grammar.specs.Trees.{File}
use Rattle.wit_grammar.specs.Laws.{IsSpelled}
use Rattle.wit_text.specs.Files.{Gives, IsFaultOf}
use Rattle.wit_bundle.specs.SourcePaths.{IsByPath}
use Rattle.wit_nested.specs.Nested.{GrowByNested, IsUnfit}
use Rattle.wit_nested.specs.PackageNames.{IsUnjoined}
use Rattle.wit_nested.specs.PackageNames.IsUnjoined.{Broken, Repeated as RepeatedName}
use Rattle.wit_groups.specs.declared.group.UnresolvedPackageGroup.{UnresolvedPackageGroup}
use Rattle.wit_groups.specs.Groups.{AreRefused, AreUsed, IsAlone, IsRefused, IsTree, IsUnparsed, IsUnread}
use Rattle.wit_groups.specs.Groups.AreRefused.{Unread, Unfit, Illegal, Repeated}
use Rattle.wit_groups.specs.Groups.IsRefused.{InTurn}
use Rattle.wit_groups.specs.Groups.IsUnparsed.{Alone}
use Rattle.wit_groups.specs.Groups.AreUsed.{None, More}
use Rattle.wit_nested.proofs.Prefixes.{prefix_more, prefix_none, prefix_split}

-- a source that is lent
abbrev pub now_of : Bor Source → Source
now_of s = s.now

-- why no tree was read
pub none_read : (s : Source) (r : Result SourceFile ParseError) → ((tree : File) → IsSpelled (string_bytes s.contents) s.offset tree → Gives r tree) → IfErr r (IsFaultOf (string_bytes s.contents) s.offset) → IfErr r (IsUnread s)
none_read s (Ok read) only fault = tt
none_read s (Err e) only fault = record { none = only; fault = fault }

-- no source yet
pub used_none : (turn : List (Bor Source)) (files : List PackageFile) (packages : List UnresolvedPackage) → files ≡ [] → packages ≡ [] → AreUsed (map now_of (take 0 turn)) files packages
used_none turn files packages e f = rw (prefix_none now_of turn, e, f) None

-- a tree more
pub used_more : (turn : List (Bor Source)) (i : ℕ) (s : Bor Source) (files extended : List PackageFile) (packages kept : List UnresolvedPackage) (read : SourceFile) → i < length turn → s ≡ get_or turn i s →
    AreUsed (map now_of (take i turn)) files packages → IsTree s.now read → ((f : Fault) → IsUnfit files read f → ⊥) → extended ≡ files ++ read.file ∷ [] → GrowByNested read.nested.items packages kept →
    AreUsed (map now_of (take (i + 1) turn)) extended kept
used_more turn i s files extended packages kept read lt is in_use tree fit e nested = rw (prefix_more now_of turn i s lt is, e) (More (map now_of (take i turn)) files packages kept s.now read in_use tree fit nested)

-- a source that cannot be read
pub unread : (turn : List (Bor Source)) (i : ℕ) (s : Bor Source) (files : List PackageFile) (packages : List UnresolvedPackage) (e : ParseError) → i < length turn → s ≡ get_or turn i s →
    AreUsed (map now_of (take i turn)) files packages → IsUnread s.now e → AreRefused (map now_of turn) e
unread turn i s files packages e lt is in_use refused = Unread (map now_of (take i turn)) (map now_of (drop (suc i) turn)) s.now (prefix_split now_of turn i s lt is) files packages in_use refused

-- a tree that is unfit
pub unfit : (turn : List (Bor Source)) (i : ℕ) (s : Bor Source) (files : List PackageFile) (packages : List UnresolvedPackage) (read : SourceFile) (e : ParseError) → i < length turn → s ≡ get_or turn i s →
    AreUsed (map now_of (take i turn)) files packages → IsTree s.now read → Refused (IsUnfit files read) e → AreRefused (map now_of turn) e
unfit turn i s files packages read e lt is in_use tree refused = Unfit (map now_of (take i turn)) (map now_of (drop (suc i) turn)) s.now (prefix_split now_of turn i s lt is) files packages read in_use tree refused

-- files that break a rule, or after which a nested package has a name again
refused_whole : (turn : List Source) (files : List PackageFile) (packages : List UnresolvedPackage) (e : ParseError) → AreUsed turn files packages → Refused (IsUnjoined files packages) e → AreRefused turn e
refused_whole turn files packages e in_use (inl wanted) = Illegal files packages in_use (inl wanted)
refused_whole turn files packages e in_use (inr (Broken broken)) = Illegal files packages in_use (inr broken)
refused_whole turn files packages e in_use (inr (RepeatedName main made again)) = Repeated files packages main in_use made again

pub not_joined : {X : Type 0} (sources turn : List Source) (files : List PackageFile) (packages : List UnresolvedPackage) (r : Result X ParseError) → IsByPath sources turn → AreUsed turn files packages →
    IfErr r (Refused (IsUnjoined files packages)) → IfErr r (IsRefused sources)
not_joined sources turn files packages (Ok x) by_path in_use refused = tt
not_joined sources turn files packages (Err e) by_path in_use refused = InTurn turn by_path (refused_whole turn files packages e in_use refused)

-- a text after no source
pub only_source : (path text : List ℕ) (old new : List Source) → old ≡ [] → (s : Source) × IsSource path text (space old) s × (new ≡ old ++ s ∷ []) → IsAlone path text new
only_source path text old new none h = record { source = h.0; is = subst (λ ss. IsSource path text (space ss) h.0) none h.1; only = h.2 ∙ ap (λ ss. ss ++ h.0 ∷ []) none }

-- the group of a text
pub parsed : (path text : List ℕ) (map : SourceMap) (r : Result UnresolvedPackageGroup (SourceMap × ParseError)) → IsAlone path text map.sources.items → IfOk r (λ g. g.source_map ≡ map) →
    IfOk r (λ g. IsAlone path text g.source_map.sources.items)
parsed path text map (Ok g) alone same = subst (λ (m : SourceMap). IsAlone path text m.sources.items) (sym same) alone
parsed path text map (Err e) alone same = tt

-- a text that makes none
pub unparsed : (path text : List ℕ) (map : SourceMap) (r : Result UnresolvedPackageGroup (SourceMap × ParseError)) → IsAlone path text map.sources.items → IfErr r (λ e. IsRefused map.sources.items e.1) →
    IfErr r (λ e. e.0 ≡ map) → IfErr r (λ e. IsUnparsed path text e.0.sources.items e.1)
unparsed path text map (Ok g) alone refused same = tt
unparsed path text map (Err e) alone refused same =
    Alone (subst (λ (m : SourceMap). IsAlone path text m.sources.items) (sym same) alone) (subst (λ (m : SourceMap). IsRefused m.sources.items e.1) (sym same) refused)
