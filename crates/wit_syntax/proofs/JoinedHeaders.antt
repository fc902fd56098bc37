-- Files and the one that they come to have the same headers.
use Rattle.std.proofs.Common.{◌≡◌, List, [], ◌∷◌, Option, Some, None, refl, sym, ap, ◌∙◌}
use Rattle.std.specs.List.{cons_option}
use Rattle.std.specs.Option.{option_or}
use Rattle.wit_tree.specs.declared.tree.PackageName.{PackageName as Header}
use Rattle.wit_tree.specs.declared.tree.PackageFile.{PackageFile}
use Rattle.wit_syntax.specs.Broken.{last_header, headers}
use Rattle.wit_syntax.specs.Splitting.{IsJoined}
use Rattle.wit_syntax.proofs.Headers.{option_or-none}

-- the headers of files are the same, and so is the last one
pub record HaveSameHeaders (files others : List PackageFile) : Type 0 where
  pub all : headers files ≡ headers others
  pub last : last_header files ≡ last_header others

pub headers_back : (files others : List PackageFile) → HaveSameHeaders files others → HaveSameHeaders others files
headers_back files others h = record { all = sym h.all; last = sym h.last }

-- the last header is the last of the headers
abbrev last_of : List Header → Option Header
last_of [] = None
last_of (h ∷ hs) = option_or (last_of hs) (Some h)

one_more : (o : Option Header) (hs : List Header) (last : Option Header) → last ≡ last_of hs → option_or last o ≡ last_of (cons_option o hs)
one_more None hs last same = option_or-none last ∙ same
one_more (Some h) hs last same = ap (λ (l : Option Header). option_or l (Some h)) same

last_stated : (files : List PackageFile) → last_header files ≡ last_of (headers files)
last_stated [] = refl
last_stated (f ∷ files) = one_more f.package_id (headers files) (last_header files) (last_stated files)

pub joined_headers : (files : List PackageFile) (one : PackageFile) → IsJoined files one → HaveSameHeaders files (one ∷ [])
joined_headers files one j =
    let all : headers files ≡ headers (one ∷ []) = j.one_header ∙ sym (ap (λ (o : Option Header). cons_option o []) j.own_header) in
    record { all = all; last = last_stated files ∙ ap last_of all ∙ sym (last_stated (one ∷ [])) }
