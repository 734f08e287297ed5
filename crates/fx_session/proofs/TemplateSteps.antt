-- Fields and template records, one after another.
use Rattle.std.proofs.Common.{◌≡◌, ℕ, zero, suc, ◌+◌, ◌≤◌, ◌<◌, Bool, true, false, ◌&&◌, ◌||◌, ◌==◌, cond, ltb, ltb-false, lt-ltb, le-ltb, List, [], ◌∷◌, length, drop, get_or, refl, ap, sym, ◌∙◌, arith, add-one, length-drop, Result, Ok, Err, inl, inr}
use Rattle.std.specs.Int.{w16}
use Rattle.fx_wire.proofs.RecordSteps.{here_and_on, none_left}
use Rattle.fx_wire.proofs.SetLists.{chosen}
use Rattle.fx_wire.proofs.FieldSteps.{field_at-shorter, fields_in-none, fields_in-first, fields_in-refused}
use Rattle.fx_wire.specs.Numbers.{number_at}
use Rattle.fx_wire.specs.Fields.{field_at, fields_in, before_fields}
use Rattle.fx_wire.specs.Templates.{heading_at, withdrawal, declaration}
use Rattle.fx_wire.specs.Templates as wire
use Rattle.fx_wire.specs.declared.field.FieldSpecifier.{FieldSpecifier}
use Rattle.fx_wire.specs.declared.template.TemplateKind.{TemplateKind}
use Rattle.fx_wire.specs.declared.template.TemplateKind.TheVariants as kinds
use Rattle.fx_wire.specs.declared.template.NewTemplate.{NewTemplate}
use Rattle.fx_wire.specs.declared.template.TemplateHeading.{TemplateHeading}
use Rattle.fx_wire.specs.declared.template.TemplateHeading.TheVariants.{Withdrawal, WithdrawalOfAll, Declaration}
use Rattle.fx_session.specs.Templates.{Templates, same_fields, same_field, after_declaration, after_withdrawal, after_withdrawal_of_all}
use Rattle.fx_session.specs.TemplateSets.{has_narrow, is_narrow, narrow_in, followed_by, with_fields, with_heading, template_record, template_records, template_set}
use Rattle.fx_session.specs.declared.stream_fault.StreamFault.{StreamFault}
use Rattle.fx_session.specs.declared.stream_fault.StreamFault.TheVariants as faults
use Rattle.fx_wire.specs.declared.malformed.Malformed.{Malformed}
use Rattle.fx_wire.specs.declared.malformed.Malformed.TheVariants as malformed

-- ---- the same fields

pub same_fields-apart : (a b : List FieldSpecifier) → (length a ≡ length b → ⊥) → same_fields a b ≡ false
unfolding same_fields
same_fields-apart [] [] h = absurd (h refl)
same_fields-apart [] (g ∷ gs) h = refl
same_fields-apart (f ∷ fs) [] h = refl
same_fields-apart (f ∷ fs) (g ∷ gs) h = by (same_field f g) (same_fields-apart fs gs (λ e. h (omega (arith, e)))) where
  by : (s : Bool) → same_fields fs gs ≡ false → (s && same_fields fs gs) ≡ false
  by true e = e
  by false e = refl

step : (a b : List FieldSpecifier) (i : ℕ) (d e : FieldSpecifier) → i < length a → i < length b
    → same_fields (drop i a) (drop i b) ≡ (same_field (get_or a i d) (get_or b i e) && same_fields (drop (i + 1) a)
    (drop (i + 1) b))
unfolding same_fields
step a b i d e h k = ap (λ (l : List FieldSpecifier). same_fields l (drop i b)) (here_and_on a i d h)
    ∙ ap (λ (l : List FieldSpecifier). same_fields (get_or a i d ∷ drop (i + 1) a) l) (here_and_on b i e k)

pub same_fields-differ : (a b : List FieldSpecifier) (i : ℕ) (d e : FieldSpecifier) (s : Bool) → i < length a → i
    < length b → s ≡ same_field (get_or a i d) (get_or b i e) → s ≡ false
    → same_fields (drop i a) (drop i b) ≡ false
same_fields-differ a b i d e s h k same apart = step a b i d e h k
    ∙ ap (λ (t : Bool). t && same_fields (drop (i + 1) a) (drop (i + 1) b)) (sym same ∙ apart)

pub same_fields-agree : (a b : List FieldSpecifier) (i : ℕ) (d e : FieldSpecifier) (s : Bool) → i < length a → i
    < length b → s ≡ same_field (get_or a i d) (get_or b i e) → s ≡ true
    → same_fields (drop i a) (drop i b) ≡ same_fields (drop (i + 1) a) (drop (i + 1) b)
same_fields-agree a b i d e s h k same equal = step a b i d e h k
    ∙ ap (λ (t : Bool). t && same_fields (drop (i + 1) a) (drop (i + 1) b)) (sym same ∙ equal)

pub same_fields-end : (a b : List FieldSpecifier) (i : ℕ) → length a ≤ i → length b ≤ i
    → same_fields (drop i a) (drop i b) ≡ true
unfolding same_fields
same_fields-end a b i h k = ap (λ (l : List FieldSpecifier). same_fields l (drop i b)) (none_left a i h)
    ∙ ap (λ (l : List FieldSpecifier). same_fields [] l) (none_left b i k)

-- ---- narrow counters

pub has_narrow-here : (fields : List FieldSpecifier) (i : ℕ) (d : FieldSpecifier) (s : Bool) → i < length fields → s
    ≡ is_narrow (get_or fields i d) → s ≡ true → has_narrow (drop i fields) ≡ true
unfolding has_narrow
has_narrow-here fields i d s h same equal = ap has_narrow (here_and_on fields i d h)
    ∙ ap (λ (t : Bool). cond t true (has_narrow (drop (i + 1) fields))) (sym same ∙ equal)

pub has_narrow-on : (fields : List FieldSpecifier) (i : ℕ) (d : FieldSpecifier) (s : Bool) → i < length fields → s
    ≡ is_narrow (get_or fields i d) → s ≡ false → has_narrow (drop i fields) ≡ has_narrow (drop (i + 1) fields)
unfolding has_narrow
has_narrow-on fields i d s h same apart = ap has_narrow (here_and_on fields i d h)
    ∙ ap (λ (t : Bool). cond t true (has_narrow (drop (i + 1) fields))) (sym same ∙ apart)

pub has_narrow-end : (fields : List FieldSpecifier) (i : ℕ) → length fields ≤ i → has_narrow (drop i fields) ≡ false
unfolding has_narrow
has_narrow-end fields i h = ap has_narrow (none_left fields i h)

-- ---- template records

abbrev rest_or : {A E : Type 0} → List ℕ → Result (A × List ℕ) E → List ℕ
rest_or other (Ok p) = p.1
rest_or other (Err n) = other

same_rest : {A E : Type 0} (x : A) (xs : List ℕ) (p : A × List ℕ) → ◌≡◌ {A = Result (A × List ℕ) E} (Ok (x, xs)) (Ok p)
    → xs ≡ p.1
same_rest {A = A} {E = E} x xs p e = ap (λ (r : Result (A × List ℕ) E). rest_or [] r) e

fields_in-shorter : (n : ℕ) (bs : List ℕ) (p : List FieldSpecifier × List ℕ) → fields_in n bs ≡ Ok p → length p.1
    ≤ length bs
fields_in-shorter zero bs p e = omega (arith, ap length (same_rest [] bs p (sym (fields_in-none bs) ∙ e)))
fields_in-shorter (suc n) bs p e = by (λ rest q k. fields_in-shorter n rest q k) (field_at bs) refl where
  later : ((rest : List ℕ) (q : List FieldSpecifier × List ℕ) → fields_in n rest ≡ Ok q → length q.1 ≤ length rest)
      → (f : FieldSpecifier × List ℕ) → length f.1 ≤ length bs → (r : Result (List FieldSpecifier × List ℕ) Malformed)
      → fields_in n f.1 ≡ r → before_fields (f.0 ∷ []) r ≡ Ok p → length p.1 ≤ length bs
  later ih f h (Ok q) k m = omega (arith, h, ih f.1 q k, ap length (same_rest (f.0 ∷ q.0) q.1 p m))
  later ih f h (Err e) k m = absurd cc

  by : ((rest : List ℕ) (q : List FieldSpecifier × List ℕ) → fields_in n rest ≡ Ok q → length q.1 ≤ length rest)
      → (r : Result (FieldSpecifier × List ℕ) Malformed) → field_at bs ≡ r → length p.1 ≤ length bs
  by ih (Ok f) k = later ih f (field_at-shorter bs f k).0 (fields_in n f.1) refl
      (sym (fields_in-first (suc n) n bs f (sym (add-one n)) k) ∙ e)
  by ih (Err m) k = absurd (let r = fields_in-refused (suc n) n bs m (omega arith) k in cc)

heading_at-shorter : (kind : TemplateKind) (bs : List ℕ) (p : TemplateHeading × List ℕ) → 4 ≤ length bs
    → heading_at kind bs ≡ Ok p → length p.1 + 4 ≤ length bs
heading_at-shorter kind bs p h e =
    elim (chosen (number_at w16 2 bs == 0) (wire.followed_by (drop 4 bs) (withdrawal kind (number_at w16 0 bs))) _
    (Ok p) e) [
      | inl i ↦ by_withdrawal (withdrawal kind (number_at w16 0 bs)) i.1
      | inr i ↦ elim (chosen (ltb (number_at w16 0 bs) 256) (Err malformed.Template) _ (Ok p) i.1) [
        | inl j ↦ absurd cc
        | inr j ↦ by_kind kind (number_at w16 0 bs) (number_at w16 2 bs) j.1
      ]
    ] where
      by_withdrawal : (r : Result TemplateHeading Malformed) → wire.followed_by (drop 4 bs) r ≡ Ok p → length p.1 + 4
          ≤ length bs
      by_withdrawal (Ok heading) m = omega (arith, ap length (same_rest heading (drop 4 bs) p m), length-drop 4 bs)
      by_withdrawal (Err n) m = absurd cc

      by_kind : (kind : TemplateKind) (id count : ℕ) → declaration kind id count bs ≡ Ok p → length p.1 + 4 ≤ length bs
      by_kind kinds.Plain id count m = omega (arith, ap length (same_rest _ (drop 4 bs) p m), length-drop 4 bs)
      by_kind kinds.Options id count m =
          elim (chosen (ltb (length bs) 6) (Err malformed.Template) _ (Ok p) m) [
            | inl j ↦ absurd cc
            | inr j ↦ elim (chosen (number_at w16 4 bs == 0 || ltb count (number_at w16 4 bs)) (Err malformed.Template)
                _ (Ok p) j.1) [
                  | inl k ↦ absurd cc
                  | inr k ↦ omega (
                    arith,
                    ltb-false (length bs) 6 j.0,
                    ap length (same_rest _ (drop 6 bs) p k.1),
                    length-drop 6 bs,
                  )
                ]
          ]

-- a template record has four octets at least
pub template_record-shorter : (ts : Templates) (kind : TemplateKind) (bs : List ℕ) (p : Templates × List ℕ) → 4
    ≤ length bs → template_record ts kind bs ≡ Ok p → length p.1 < length bs
unfolding template_record
template_record-shorter ts kind bs p h e = by (heading_at kind bs) refl e where
  by_declared : (q : List FieldSpecifier × List ℕ) → length q.1 + 4 ≤ length bs → (r : Result Templates StreamFault)
      → followed_by q.1 r ≡ Ok p → length p.1 < length bs
  by_declared q k (Ok next) m = omega (arith, k, ap length (same_rest next q.1 p m))
  by_declared q k (Err n) m = absurd cc

  by_fields : (new : NewTemplate) (rest : List ℕ) → length rest + 4 ≤ length bs
      → (r : Result (List FieldSpecifier × List ℕ) Malformed) → fields_in new.count rest ≡ r
      → with_fields ts kind new.id new.scope r ≡ Ok p → length p.1 < length bs
  by_fields new rest k (Ok q) f m =
      elim (chosen (narrow_in kind q.0) (Err faults.CounterLength) _ (Ok p) m) [
        | inl j ↦ absurd cc
        | inr j ↦ by_declared q (omega (arith, k, fields_in-shorter new.count rest q f))
            (after_declaration ts kind new.id (record { scope = new.scope; fields = q.0 })) j.1
      ]
  by_fields new rest k (Err n) f m = absurd cc

  by_heading : (heading : TemplateHeading) (rest : List ℕ) → length rest + 4 ≤ length bs
      → with_heading ts kind (Ok (heading, rest)) ≡ Ok p → length p.1 < length bs
  by_heading (Withdrawal id) rest k m = omega (arith, k, ap length (same_rest (after_withdrawal ts id) rest p m))
  by_heading WithdrawalOfAll rest k m = omega (
    arith,
    k,
    ap length
        (same_rest (after_withdrawal_of_all ts kind) rest p m),
  )
  by_heading (Declaration new) rest k m = by_fields new rest k (fields_in new.count rest) refl m

  by : (r : Result (TemplateHeading × List ℕ) Malformed) → heading_at kind bs ≡ r → with_heading ts kind r ≡ Ok p
      → length p.1 < length bs
  by (Ok q) k m = by_heading q.0 q.1 (heading_at-shorter kind bs q h k) m
  by (Err n) k m = absurd cc

abbrev turn : ℕ → TemplateKind → Result (Templates × List ℕ) StreamFault → Result Templates StreamFault
turn turns kind (Ok p) = template_records turns p.0 kind p.1
turn turns kind (Err n) = Err n

-- more turns than octets change nothing
turns_same : (j k : ℕ) (ts : Templates) (kind : TemplateKind) (bs : List ℕ) → length bs ≤ j → length bs ≤ k
    → template_records j ts kind bs ≡ template_records k ts kind bs
unfolding template_records
turns_same zero zero ts kind bs h l = refl
turns_same zero (suc k) ts kind bs h l =
    ap (λ (t : Bool). cond t (Ok ts) (turn k kind (template_record ts kind bs)))
    (sym (lt-ltb (length bs) 4 (omega arith)))
turns_same (suc j) zero ts kind bs h l =
    ap (λ (t : Bool). cond t (Ok ts) (turn j kind (template_record ts kind bs))) (lt-ltb (length bs) 4 (omega arith))
turns_same (suc j) (suc k) ts kind bs h l =
    by (λ p less. turns_same j k p.0 kind p.1 (omega arith) (omega arith)) (ltb (length bs) 4) refl where
      by_record : ((p : Templates × List ℕ) → length p.1 < length bs → template_records j p.0 kind p.1
          ≡ template_records k p.0 kind p.1) → 4 ≤ length bs → (r : Result (Templates × List ℕ) StreamFault)
          → template_record ts kind bs ≡ r → turn j kind r ≡ turn k kind r
      by_record ih some (Ok p) e = ih p (template_record-shorter ts kind bs p some e)
      by_record ih some (Err n) e = refl

      by : ((p : Templates × List ℕ) → length p.1 < length bs → template_records j p.0 kind p.1
          ≡ template_records k p.0 kind p.1) → (t : Bool) → ltb (length bs) 4 ≡ t
          → cond t (Ok ts) (turn j kind (template_record ts kind bs))
          ≡ cond t (Ok ts) (turn k kind (template_record ts kind bs))
      by ih true e = refl
      by ih false e = by_record ih (ltb-false (length bs) 4 e) (template_record ts kind bs) refl

one : (ts : Templates) (kind : TemplateKind) (bs : List ℕ) → 4 ≤ length bs → template_set ts kind bs
    ≡ turn (length bs) kind (template_record ts kind bs)
unfolding template_set template_records
one ts kind bs h = turns_same (length bs) (suc (length bs)) ts kind bs (omega arith) (omega arith)
    ∙ ap (λ (t : Bool). cond t (Ok ts) (turn (length bs) kind (template_record ts kind bs))) (le-ltb (length bs) 4 h)

pub template_set-more : (ts : Templates) (kind : TemplateKind) (bs : List ℕ) (p : Templates × List ℕ) → 4 ≤ length bs
    → template_record ts kind bs ≡ Ok p → template_set ts kind bs ≡ template_set p.0 kind p.1
unfolding template_set
template_set-more ts kind bs p h e =
    let s = template_record-shorter ts kind bs p h e in
    one ts kind bs h ∙ ap (turn (length bs) kind) e
    ∙ turns_same (length bs) (length p.1) p.0 kind p.1 (omega arith) (omega arith)

pub template_set-refused : (ts : Templates) (kind : TemplateKind) (bs : List ℕ) (n : StreamFault) → 4 ≤ length bs
    → template_record ts kind bs ≡ Err n → template_set ts kind bs ≡ Err n
template_set-refused ts kind bs n h e = one ts kind bs h ∙ ap (turn (length bs) kind) e

pub template_set-padding : (ts : Templates) (kind : TemplateKind) (bs : List ℕ) → length bs < 4
    → template_set ts kind bs ≡ Ok ts
unfolding template_set template_records
template_set-padding ts kind bs h = turns_same (length bs) (suc (length bs)) ts kind bs (omega arith) (omega arith)
    ∙ ap (λ (t : Bool). cond t (Ok ts) (turn (length bs) kind (template_record ts kind bs))) (lt-ltb (length bs) 4 h)
