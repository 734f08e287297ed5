-- A record's values, one after another.
use Rattle.std.proofs.Common.{◌≡◌, ℕ, zero, suc, ◌+◌, ◌≤◌, ◌<◌, List, [], ◌∷◌, length, drop, get_or, refl, ap, sym, ◌∙◌, arith, add-one, drop-cons, Option, Some, None}
use Rattle.fx_wire.specs.Values.{Value, value_at, record_at, before_values, rest_of, after_record}
use Rattle.fx_wire.specs.declared.field.FieldSpecifier.{FieldSpecifier}

rest_of-before : (firsts : List Value) (o : Option (List Value × List ℕ)) → rest_of (before_values firsts o) ≡ rest_of o
rest_of-before firsts (Some p) = refl
rest_of-before firsts None = refl

abbrev one : FieldSpecifier → List FieldSpecifier → Option (List ℕ × List ℕ) → Option (List Value × List ℕ)
one f fs (Some v) = before_values (record { field = f; content = v.0 } ∷ []) (record_at fs v.1)
one f fs None = None

pub record_at-first : (f : FieldSpecifier) (fs : List FieldSpecifier) (bs : List ℕ) (v : List ℕ × List ℕ)
    → value_at f.field_length bs ≡ Some v
    → record_at (f ∷ fs) bs ≡ before_values (record { field = f; content = v.0 } ∷ []) (record_at fs v.1)
unfolding record_at
record_at-first f fs bs v e = ap (one f fs) e

pub record_at-cut : (f : FieldSpecifier) (fs : List FieldSpecifier) (bs : List ℕ) → value_at f.field_length bs ≡ None
    → record_at (f ∷ fs) bs ≡ None
unfolding record_at
record_at-cut f fs bs e = ap (one f fs) e

pub record_at-end : (bs : List ℕ) → record_at [] bs ≡ Some ([], bs)
unfolding record_at
record_at-end bs = refl

pub here_and_on : (fields : List FieldSpecifier) (i : ℕ) (d : FieldSpecifier) → i < length fields → drop i fields
    ≡ get_or fields i d ∷ drop (i + 1) fields
here_and_on fields i d h = rw (add-one, drop-cons fields i d) refl

pub none_left : (fields : List FieldSpecifier) (i : ℕ) → length fields ≤ i → drop i fields ≡ []
none_left [] zero h = refl
none_left [] (suc i) h = refl
none_left (f ∷ fs) zero h = absurd (omega arith)
none_left (f ∷ fs) (suc i) h = none_left fs i (omega arith)

pub after_record-more : (fields : List FieldSpecifier) (i : ℕ) (d : FieldSpecifier) (bs : List ℕ) (v : List ℕ × List ℕ)
    → i < length fields → Some v ≡ value_at (get_or fields i d).field_length bs
    → after_record (drop i fields) bs ≡ after_record (drop (i + 1) fields) v.1
after_record-more fields i d bs v h e =
    ap (λ (fs : List FieldSpecifier). after_record fs bs) (here_and_on fields i d h)
    ∙ ap rest_of (record_at-first (get_or fields i d) (drop (i + 1) fields) bs v (sym e))
    ∙ rest_of-before (record { field = get_or fields i d; content = v.0 } ∷ []) (record_at (drop (i + 1) fields) v.1)

pub after_record-cut : (fields : List FieldSpecifier) (i : ℕ) (d : FieldSpecifier) (bs : List ℕ) → i < length fields
    → None ≡ value_at (get_or fields i d).field_length bs
    → after_record (drop i fields) bs ≡ None
after_record-cut fields i d bs h e =
    ap (λ (fs : List FieldSpecifier). after_record fs bs) (here_and_on fields i d h)
    ∙ ap rest_of (record_at-cut (get_or fields i d) (drop (i + 1) fields) bs (sym e))

pub after_record-all : (fields : List FieldSpecifier) (i : ℕ) (bs : List ℕ) → length fields ≤ i
    → after_record (drop i fields) bs ≡ Some bs
after_record-all fields i bs h = ap (λ (fs : List FieldSpecifier). after_record fs bs) (none_left fields i h)
    ∙ ap rest_of (record_at-end bs)
