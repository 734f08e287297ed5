-- The answers of the readers of field specifiers.
use Rattle.std.specs.Prelude.{◌≡◌, ℕ, ◌+◌, ◌≤◌, List, Option, Some, None, Result, Ok, Err}
use Rattle.std.specs.Borrow.{Bor}
use Rattle.fx_wire.specs.Fields.{field_at}
use Rattle.fx_wire.specs.declared.field.FieldSpecifier.{FieldSpecifier}
use Rattle.fx_wire.specs.declared.malformed.Malformed.{Malformed}

abbrev pub with_rest : Option (FieldSpecifier × Bor (List ℕ)) → Option (FieldSpecifier × List ℕ)
with_rest None = None
with_rest (Some p) = Some (p.0, p.1.now)

abbrev pub field_with_rest : Result (FieldSpecifier × Bor (List ℕ)) Malformed
    → Result (FieldSpecifier × List ℕ) Malformed
field_with_rest (Ok p) = Ok (p.0, p.1.now)
field_with_rest (Err why) = Err why

-- the remaining fields: their number, and the octets from the first one on
pub record FieldsLeft : Type 0 where
  pub count : ℕ
  pub octets : List ℕ

-- a step returns the field at the front, or its refusal, after which none is left
abbrev pub IsNextField : FieldsLeft → Option (Result FieldSpecifier Malformed) → FieldsLeft → Type 0
IsNextField old None new = (old.count ≡ 0) × (new ≡ old)
IsNextField old (Some (Ok f)) new = (old.count ≡ new.count + 1) × (field_at old.octets ≡ Ok (f, new.octets))
IsNextField old (Some (Err why)) new = (new.count + 1 ≤ old.count) × (field_at old.octets ≡ Err why) × (new.count ≡ 0)
