-- The templates of an observation domain (RFC 7011, section 8: an id has a meaning only in its session and observation
-- domain).
use Rattle.std.specs.Prelude.{ℕ, Bool, true, false, ◌&&◌, ◌==◌, if◌then◌else◌, is_some, List, [], ◌∷◌, Option, Some, None, Result, Ok, Err}
use Rattle.std.specs.Map.{lookup, remove_entry}
use Rattle.std.specs.BTreeMap.{insert_entry, is_at}
use Rattle.std.specs.Ordering.{nat_cmp}
use Rattle.fx_wire.specs.declared.field.FieldSpecifier.{FieldSpecifier}
use Rattle.fx_wire.specs.declared.template.TemplateKind.{TemplateKind}
use Rattle.fx_wire.specs.declared.template.TemplateKind.TheVariants as kinds
use Rattle.fx_session.specs.declared.stream_fault.StreamFault.{StreamFault}
use Rattle.fx_session.specs.declared.stream_fault.StreamFault.TheVariants as faults

-- ---- tables: entries by number, ascending

abbrev pub at_number : {A : Type 0} → List (ℕ × A) → ℕ → Option A
at_number table n = lookup (is_at (nat_cmp n)) table

-- the entry of a number is inserted in order, replacing the previous entry of that number
abbrev pub with_entry : {A : Type 0} → List (ℕ × A) → ℕ → A → List (ℕ × A)
with_entry table n x = insert_entry nat_cmp table n x

abbrev pub without_entry : {A : Type 0} → List (ℕ × A) → ℕ → List (ℕ × A)
without_entry table n = remove_entry (is_at (nat_cmp n)) table

-- ---- templates

-- the number of scope fields (0 except in an options template), and the fields in order
pub record Template : Type 0 where
  pub scope : ℕ
  pub fields : List FieldSpecifier

abbrev pub same_enterprise : Option ℕ → Option ℕ → Bool
same_enterprise None None = true
same_enterprise (Some m) (Some n) = m == n
same_enterprise _ _ = false

abbrev pub same_field : FieldSpecifier → FieldSpecifier → Bool
same_field f g = f.element == g.element && f.field_length == g.field_length && same_enterprise f.enterprise g.enterprise

unfoldable pub same_fields : List FieldSpecifier → List FieldSpecifier → Bool
same_fields [] [] = true
same_fields (f ∷ fs) (g ∷ gs) = same_field f g && same_fields fs gs
same_fields _ _ = false

-- the same fields as written, and the same scope
abbrev pub same_template : Template → Template → Bool
same_template s t = s.scope == t.scope && same_fields s.fields t.fields

-- the templates and the options templates of an observation domain, by id
pub record Templates : Type 0 where
  pub plain : List (ℕ × Template)
  pub options : List (ℕ × Template)

abbrev pub no_templates : Templates
no_templates = record { plain = []; options = [] }

-- ---- changes (section 8.1)

-- a live template may only be declared again unchanged; a new one may not use an id that the other kind has
abbrev pub in_table : Option Template → Bool → List (ℕ × Template) → ℕ → Template
    → Result (List (ℕ × Template)) StreamFault
in_table (Some old) other table id new = if same_template old new then Ok table else Err faults.TemplateIdInUse
in_table None other table id new = if other then Err faults.TemplateIdInUse else Ok (with_entry table id new)

abbrev pub with_plain : Templates → Result (List (ℕ × Template)) StreamFault → Result Templates StreamFault
with_plain ts (Ok table) = Ok (record { plain = table; options = ts.options })
with_plain ts (Err fault) = Err fault

abbrev pub with_options : Templates → Result (List (ℕ × Template)) StreamFault → Result Templates StreamFault
with_options ts (Ok table) = Ok (record { plain = ts.plain; options = table })
with_options ts (Err fault) = Err fault

abbrev pub after_declaration : Templates → TemplateKind → ℕ → Template → Result Templates StreamFault
after_declaration ts kinds.Plain id new =
    with_plain ts (in_table (at_number ts.plain id) (is_some (at_number ts.options id)) ts.plain id new)
after_declaration ts kinds.Options id new =
    with_options ts (in_table (at_number ts.options id) (is_some (at_number ts.plain id)) ts.options id new)

-- withdrawing an id that has no template changes nothing
abbrev pub after_withdrawal : Templates → ℕ → Templates
after_withdrawal ts id = record { plain = without_entry ts.plain id; options = without_entry ts.options id }

abbrev pub after_withdrawal_of_all : Templates → TemplateKind → Templates
after_withdrawal_of_all ts kinds.Plain = record { plain = []; options = ts.options }
after_withdrawal_of_all ts kinds.Options = record { plain = ts.plain; options = [] }
