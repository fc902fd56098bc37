-- Definitions and functions with the metadata that their docs and attributes say.
use Rattle.std.proofs.Common.{◌≡◌, List, [], ◌∷◌, ap, ◌∙◌, subst}
use Rattle.wit_arena.proofs.Common.{Address, AreMetadata, Attribute, Defined, Defines, IsAdded, Metadata, Names, ResolvedScope, SourceFunction, Stability, TypeDef, TypeDefKind, TypeOwner, about_name, body_of, defines_one, docs_of, env_of, kind_of, metadata}
use Rattle.wit_type_tree.specs.declared.leaves.Docs.{Docs}
use Rattle.wit_type_tree.specs.declared.types.TypeDef.{TypeDef as Definition}
use Rattle.wit_notes.specs.BorrowedMetadata.{metadata_view}
use Rattle.wit_notes.specs.declared.metadata.Metadata.{Metadata as Made}
use Rattle.wit_entries.specs.ResolvedForms.{AreParts, IsKindOf}

-- what docs and attributes say is stated of what has them
stated_of : (n : Made) (docs own : Docs) (attributes of : List Attribute) → metadata_view n ≡ metadata (docs_of docs) attributes → docs ≡ own → attributes ≡ of → metadata_view n ≡ metadata (docs_of own) of
stated_of n docs own attributes of as_stated same_docs same_attributes = as_stated ∙ ap (λ (d : Docs). metadata (docs_of d) attributes) same_docs ∙ ap (metadata (docs_of own)) same_attributes

-- these are the metadata that the docs and the attributes of a function say
pub noted_as : (fn : SourceFunction) (n : Made) (docs : Docs) (attributes : List Attribute) → metadata_view n ≡ metadata (docs_of docs) attributes → docs ≡ fn.docs → attributes ≡ fn.attributes → AreMetadata (metadata (docs_of fn.docs) fn.attributes) n.docs n.stability n.external_id
noted_as fn n docs attributes as_stated same_docs same_attributes =
    let all = stated_of n docs fn.docs attributes fn.attributes as_stated same_docs same_attributes in
    record {
      docs = ap (λ (m : Metadata). m.docs) all;
      stability = ap (λ (m : Metadata). m.stability) all;
      external_id = ap (λ (m : Metadata). m.external_id) all;
    }

-- a definition occurs with its metadata, and what is in its body with its stability
pub defines_noted : (old mid new : List TypeDef) (cs : List ResolvedScope) (o : TypeOwner) (s : Address) (names names' : Names) (d : Definition) (kind : TypeDefKind) (n : Made) (attributes : List Attribute) → metadata_view n ≡ metadata (docs_of d.docs) attributes → attributes ≡ d.attributes.items → IsKindOf old mid (env_of names) n.stability (body_of d.body) kind → IsAdded mid new o names names' d.name.name.now (metadata_view n) d.name.span kind → Defines old new cs o s names names' (Defined d ∷ [])
defines_noted old mid new cs o s names names' d kind n attributes as_stated same is added =
    let all : metadata_view n ≡ (about_name (Defined d)).metadata = as_stated ∙ ap (metadata (docs_of d.docs)) same in
    let body = body_of d.body in
    defines_one old mid new cs o s names names' d kind
    (subst (λ (given : Stability). AreParts old mid (env_of names) given body.parts (kind_of kind).1) (ap (λ (m : Metadata). m.stability) all) is.parts s)
    is.form
    (subst (λ (m : Metadata). IsAdded mid new o names names' d.name.name.now m d.name.span kind) all added)
