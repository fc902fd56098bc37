-- The names of functions: each is mangled, and it is a setter's exactly where the function is one.
use Rattle.std.proofs.Common.{◌≡◌, ℕ, ◌==◌, ◌++◌, ◌||◌, List, [], ◌∷◌, Some, None, true, false, refl, sym, subst, append_assoc}
use Rattle.wit_arena.proofs.Common.{Async, FuncForm, Getter, Id, IsTrue, Option, ResourceFunc, accessor, and_parts, codes, fragments, getter_of, is_ascii_alphabetic, is_dotted, is_fragment, is_label, is_mangled, is_setter, list_all, ne_eqb, option_map_or, passes, resource_function, rest_after, starts_with_letter}
use Rattle.wit_type_tree.specs.declared.types.FuncForm.TheVariants.{Plain, Setter}
use Rattle.wit_type_tree.specs.declared.types.ResourceFunc.TheVariants as resource
use Rattle.wit_names.proofs.Labels.{is_mangled-label}
use Rattle.wit_names.proofs.MadeNames.{is_dotted-labels, is_mangled-get, is_mangled-set, is_mangled-constructor, is_mangled-method, is_mangled-method_get, is_mangled-method_set, is_mangled-static, is_mangled-static_get, is_mangled-static_set, is_setter-set, is_setter-method, is_setter-static}
use Rattle.wit_walk.proofs.Common.{is_setter as form_sets}
use Rattle.wit_rules.specs.declared.borrowed.BorrowedFunction.{BorrowedFunction}
use Rattle.wit_rules.specs.declared.borrowed.BorrowedFunction.TheVariants.{Free, Of, Across}
use Rattle.wit_rules.specs.Signatures.{function_view}

-- a function by itself, of a resource, a static one
mangled_free : (form : FuncForm) (id : Id) → is_mangled (accessor form ++ id.name.now) ≡ true
mangled_free Plain id = is_mangled-label id.name.now id.label
mangled_free Async id = is_mangled-label id.name.now id.label
mangled_free Getter id = is_mangled-get id.name.now id.label
mangled_free Setter id = is_mangled-set id.name.now id.label

mangled_method : (form : FuncForm) (text : List ℕ) → is_dotted text ≡ true → is_mangled (codes "[method]" ++ (accessor form ++ text)) ≡ true
mangled_method Plain text h = is_mangled-method text h
mangled_method Async text h = is_mangled-method text h
mangled_method Getter text h = is_mangled-method_get text h
mangled_method Setter text h = is_mangled-method_set text h

mangled_static : (form : FuncForm) (text : List ℕ) → is_dotted text ≡ true → is_mangled (codes "[static]" ++ (accessor form ++ text)) ≡ true
mangled_static Plain text h = is_mangled-static text h
mangled_static Async text h = is_mangled-static text h
mangled_static Getter text h = is_mangled-static_get text h
mangled_static Setter text h = is_mangled-static_set text h

dotted_bytes : (r f : Id) → (r.name.now ++ codes "." ++ f.name.now) ≡ r.name.now ++ (46 ∷ f.name.now)
dotted_bytes r f = append_assoc r.name.now (codes ".") f.name.now

is_dotted-ids : (r f : Id) → is_dotted (r.name.now ++ codes "." ++ f.name.now) ≡ true
is_dotted-ids r f = rw (dotted_bytes r f) (is_dotted-labels r.name.now f.name.now r.label f.label)

mangled_resource : (r : Id) (f : ResourceFunc) → is_mangled (resource_function r f).name ≡ true
mangled_resource r (resource.Method f) = mangled_method f.func.form (r.name.now ++ codes "." ++ f.name.name.now) (is_dotted-ids r f.name)
mangled_resource r (resource.Static f) = mangled_static f.func.form (r.name.now ++ codes "." ++ f.name.name.now) (is_dotted-ids r f.name)
mangled_resource r (resource.Constructor docs attributes span params result) = is_mangled-constructor r.name.now r.label

-- the name of a function is mangled
pub mangled_view : (h : BorrowedFunction) → IsTrue (is_mangled (function_view h).name)
mangled_view (Free f) = mangled_free f.now.func.form f.now.name
mangled_view (Of r f) = mangled_resource r f.now
mangled_view (Across side docs attributes name f) = mangled_free f.now.form name

-- a label begins with a letter, and so does what has one in front
letter-label : (text : List ℕ) → is_label text ≡ true → starts_with_letter text ≡ true
letter-label text h = (and_parts (starts_with_letter text) (list_all is_fragment (fragments text)) h).0

letter-append : (text more : List ℕ) → starts_with_letter text ≡ true → starts_with_letter (text ++ more) ≡ true
letter-append [] more h = (let wrong : false ≡ true = h in cc)
letter-append (b ∷ text) more h = h

-- a letter opens no bracket
no_bracket : (b : ℕ) → is_ascii_alphabetic b ≡ true → (91 == b) ≡ false
no_bracket b h = ne_eqb 91 b (λ e.
    let wrong : false ≡ true = subst (λ (k : ℕ). is_ascii_alphabetic k ≡ true) (sym e) h in
    cc)

-- what begins with a letter is no setter's name, neither alone nor as a function of a resource
no_setter-letter : (text : List ℕ) → starts_with_letter text ≡ true → is_setter text ≡ false
no_setter-letter [] h = refl
no_setter-letter (b ∷ text) h = rw (no_bracket b h) refl

no_setter-method : (text : List ℕ) → starts_with_letter text ≡ true → is_setter (codes "[method]" ++ text) ≡ false
no_setter-method [] h = refl
no_setter-method (b ∷ text) h = rw (no_bracket b h) refl

no_setter-static : (text : List ℕ) → starts_with_letter text ≡ true → is_setter (codes "[static]" ++ text) ≡ false
no_setter-static [] h = refl
no_setter-static (b ∷ text) h = rw (no_bracket b h) refl

-- a label is no setter's name
pub no_setter-label : (text : List ℕ) → is_label text ≡ true → is_setter text ≡ false
no_setter-label text h = no_setter-letter text (letter-label text h)

-- the name of a setter's getter is no label
no_label-with_prefix : (name : List ℕ) (set method static : Option (List ℕ)) → (passes is_label set || passes is_dotted method || passes is_dotted static) ≡ true → is_label (option_map_or (λ (rest : List ℕ). codes "[method][get]" ++ rest) method (option_map_or (λ (rest : List ℕ). codes "[static][get]" ++ rest) static (option_map_or (λ (rest : List ℕ). codes "[get]" ++ rest) set name))) ≡ false
no_label-with_prefix name set (Some rest) static h = refl
no_label-with_prefix name set None (Some rest) h = refl
no_label-with_prefix name (Some rest) None None h = refl
no_label-with_prefix name None None None h = (let wrong : false ≡ true = h in cc)

pub no_label-getter_of : (name : List ℕ) → is_setter name ≡ true → is_label (getter_of name) ≡ false
no_label-getter_of name h = no_label-with_prefix name (rest_after (codes "[set]") name) (rest_after (codes "[method][set]") name) (rest_after (codes "[static][set]") name) h

-- a name is a setter's where its form is that of one
set_free : (form : FuncForm) (text : List ℕ) → is_label text ≡ true → is_setter (accessor form ++ text) ≡ form_sets form
set_free Plain text h = no_setter-label text h
set_free Async text h = no_setter-label text h
set_free Getter text h = refl
set_free Setter text h = is_setter-set text h

set_method : (form : FuncForm) (text : List ℕ) → starts_with_letter text ≡ true → is_dotted text ≡ true → is_setter (codes "[method]" ++ (accessor form ++ text)) ≡ form_sets form
set_method Plain text letter h = no_setter-method text letter
set_method Async text letter h = no_setter-method text letter
set_method Getter text letter h = refl
set_method Setter text letter h = is_setter-method text h

set_static : (form : FuncForm) (text : List ℕ) → starts_with_letter text ≡ true → is_dotted text ≡ true → is_setter (codes "[static]" ++ (accessor form ++ text)) ≡ form_sets form
set_static Plain text letter h = no_setter-static text letter
set_static Async text letter h = no_setter-static text letter
set_static Getter text letter h = refl
set_static Setter text letter h = is_setter-static text h

letter-dotted : (r f : Id) → starts_with_letter (r.name.now ++ codes "." ++ f.name.now) ≡ true
letter-dotted r f = rw (dotted_bytes r f) (letter-append r.name.now (46 ∷ f.name.now) (letter-label r.name.now r.label))

set_resource : (r : Id) (f : ResourceFunc) → is_setter (resource_function r f).name ≡ form_sets (resource_function r f).func.form
set_resource r (resource.Method f) = set_method f.func.form (r.name.now ++ codes "." ++ f.name.name.now) (letter-dotted r f.name) (is_dotted-ids r f.name)
set_resource r (resource.Static f) = set_static f.func.form (r.name.now ++ codes "." ++ f.name.name.now) (letter-dotted r f.name) (is_dotted-ids r f.name)
set_resource r (resource.Constructor docs attributes span params result) = refl

-- so a function is a setter exactly where its name is that of one
pub set_view : (h : BorrowedFunction) → is_setter (function_view h).name ≡ form_sets (function_view h).func.form
set_view (Free f) = set_free f.now.func.form f.now.name.name.now f.now.name.label
set_view (Of r f) = set_resource r f.now
set_view (Across side docs attributes name f) = set_free f.now.form name.name.now name.label
