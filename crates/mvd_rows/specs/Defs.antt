-- The definitions of indexes and views.
use Rattle.std.specs.Prelude.{ℕ, Bool, ◌||◌, List, [], ◌∷◌, ◌++◌, length, nat_le, Result, Ok, Err, if◌then◌else◌, bytes_eq, refl}
use Rattle.std.specs.Coded.{Coded, code_by, coded×, coded_ℕ, coded_list}
use Rattle.std.specs.List.{list_any}
use Rattle.mvd_dots.specs.declared.refusals.Refusal.{Refusal}
use Rattle.mvd_dots.specs.declared.refusals.Refusal.TheVariants.{BadDefs}
use Rattle.mvd_rows.specs.Names.{Field}
use Rattle.mvd_rows.specs.declared.definitions.ViewDef.{ViewDef}

-- the fields that have an index, and the views
pub record Definitions : Type 0 where
  pub indexes : List Field
  pub views : List ViewDef

abbrev pub view_code : Coded ViewDef
view_code =
    code_by (Field × (Field × Field)) (coded× (coded_list coded_ℕ) (coded× (coded_list coded_ℕ) (coded_list coded_ℕ)))
    (λ v. (v.name, (v.group, v.sum))) (λ p. record { name = p.0; group = p.1.0; sum = p.1.1 }) (λ _. refl)

abbrev pub definitions_code : Coded Definitions
definitions_code =
    code_by (List Field × List ViewDef) (coded× (coded_list (coded_list coded_ℕ)) (coded_list view_code))
    (λ d. (d.indexes, d.views)) (λ p. record { indexes = p.0; views = p.1 }) (λ _. refl)

abbrev pub no_definitions : Definitions
no_definitions = record { indexes = []; views = [] }

-- whether the field has an index
abbrev pub has_index : List Field → Field → Bool
has_index indexes field = list_any (λ other. bytes_eq field other) indexes

-- whether a view has the name
abbrev pub has_view : List ViewDef → List ℕ → Bool
has_view views name = list_any (λ view. bytes_eq name view.name) views

-- one more index, unless the field has one or there are sixteen
abbrev pub with_index : Definitions → Field → Result Definitions Refusal
with_index defs field =
    if has_index defs.indexes field || nat_le 16 (length defs.indexes) then Err BadDefs
    else Ok (record { indexes = defs.indexes ++ field ∷ []; views = defs.views })

-- one more view, unless one has its name or there are sixteen
abbrev pub with_view : Definitions → ViewDef → Result Definitions Refusal
with_view defs view =
    if has_view defs.views view.name || nat_le 16 (length defs.views) then Err BadDefs
    else Ok (record { indexes = defs.indexes; views = defs.views ++ view ∷ [] })
