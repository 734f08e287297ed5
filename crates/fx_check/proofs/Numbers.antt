-- The numbers with which a certificate is refused.
use Rattle.std.proofs.Common.{◌≡◌, ℕ, Bool, true, false, List, [], ◌∷◌, Option, Some, None, Result, Ok, Err, IfSome, refl, ap, sym, subst, ◌∙◌, inl, inr, arith, if◌then◌else◌, ◌&&◌, ◌==◌, nat_le, nat_lt, slice_index}
use Rattle.fx_base.specs.declared.fault.Fault.{Fault}
use Rattle.fx_base.specs.declared.fault.Place.TheVariants as places
use Rattle.fx_base.specs.Fault.{fault_at}
use Rattle.fx_base.specs.Lines.{Lines, RefusesText, StopsText, next_number}
use Rattle.fx_boxes.specs.Boxes.{Bounds}
use Rattle.fx_cert.specs.declared.item.Item.{Item}
use Rattle.fx_cert.specs.declared.item.Item.TheVariants as item
use Rattle.fx_elements.specs.Axes.{axis_index}
use Rattle.fx_tables.specs.Network.{Net}
use Rattle.fx_leaf.specs.declared.leaf.Counted.{Counted}
use Rattle.fx_leaf.specs.declared.verdict.Fate.TheVariants.{Never, Once, Many, Differing, Unassigned}
use Rattle.fx_leaf.specs.Leaves.{leaf_of, never_of, numbers_of}
use Rattle.fx_leaf.specs.Verdicts.{Verdict, path_verdict, counter}
use Rattle.fx_check.specs.Judging.{judge_of, same_leaf, unless_same, unless_never}
use Rattle.fx_check.specs.Outcomes.{IsCertificateNumber, IsCheckFault, memory, device, too_long, wrong, IsReportedBy}
use Rattle.fx_traffic.specs.Targets.{Target}
use Rattle.fx_check.specs.FirstRefusal.{Goal, header, opening, tree, close, LineReading, long, cut, malformed, says, Refusal, at_line, at_end, after, after_reading, form_fault, leaf_answer, split_answer, unless_wrong, parts, may_say_never, by_number}
use Rattle.fx_check.specs.LineFaults.{number_of}
use Rattle.fx_check.specs.declared.line_fault.LineFault.{LineFault}
use Rattle.fx_check.specs.declared.line_fault.LineFault.TheVariants as faults

-- the number of a fault, if there is one
abbrev number_or : ℕ → Result (List Goal) ℕ → ℕ
number_or n (Ok gs) = n
number_or n (Err k) = k

abbrev option_or : ℕ → Option ℕ → ℕ
option_or n None = n
option_or n (Some k) = k

abbrev refuses_with : ℕ → Result (List Goal) ℕ
refuses_with n = Err n

abbrev fault_or : LineFault → Result (List Goal) LineFault → LineFault
fault_or fault (Ok gs) = fault
fault_or fault (Err other) = other

abbrev refuses_for : LineFault → Result (List Goal) LineFault
refuses_for fault = Err fault

is_number : (n k : ℕ) → IsCertificateNumber n → refuses_with n ≡ Err k → IsCertificateNumber k
is_number n k h e = subst IsCertificateNumber (ap (number_or 0) e) h

is_fault : (f k : LineFault) → IsCertificateNumber (number_of f) → refuses_for f ≡ Err k
    → IsCertificateNumber (number_of k)
is_fault f k h e = subst (λ (fault : LineFault). IsCertificateNumber (number_of fault)) (ap (fault_or faults.Form) e) h

is_some_number : (n k : ℕ) → IsCertificateNumber n → Some n ≡ Some k → IsCertificateNumber k
is_some_number n k h e = subst IsCertificateNumber (ap (option_or 0) e) h

-- ---- a leaf

unless_same_number : (leaf : Counted) (v : Verdict) (c : Option Counted) (k : ℕ) → unless_same leaf (leaf_of v c)
    ≡ Some k → IsCertificateNumber k
unless_same_number leaf None c k e = is_some_number 406 k (omega arith, omega arith) e
unless_same_number leaf (Some Unassigned) c k e = is_some_number 413 k (omega arith, omega arith) e
unless_same_number leaf (Some Differing) c k e = is_some_number 409 k (omega arith, omega arith) e
unless_same_number leaf (Some Many) c k e = is_some_number 408 k (omega arith, omega arith) e
unless_same_number leaf (Some Never) c k e = is_some_number 407 k (omega arith, omega arith) e
unless_same_number leaf (Some Once) None k e = is_some_number 407 k (omega arith, omega arith) e
unless_same_number leaf (Some Once) (Some c) k e = go (same_leaf c leaf) e where
  go : (b : Bool) → (if b then None else Some 410) ≡ Some k → IsCertificateNumber k
  go true e = absurd cc
  go false e = is_some_number 410 k (omega arith, omega arith) e

-- 403 where the kind of leaf isn't the class's
unless_misplaced : (b : Bool) (r : Result (List Goal) LineFault) (k : LineFault)
    → (r ≡ Err k → IsCertificateNumber (number_of k)) → (if b then Err faults.Place else r) ≡ Err k
    → IsCertificateNumber (number_of k)
unless_misplaced true r k h e = is_fault faults.Place k (omega arith, omega arith) e
unless_misplaced false r k h e = h e

only_in_place : (b : Bool) (r : Result (List Goal) LineFault) (k : LineFault)
    → (r ≡ Err k → IsCertificateNumber (number_of k)) → (if b then r else Err faults.Place) ≡ Err k
    → IsCertificateNumber (number_of k)
only_in_place true r k h e = h e
only_in_place false r k h e = is_fault faults.Place k (omega arith, omega arith) e

unless_never_number : (v : Verdict) (k : ℕ) → unless_never (never_of v) ≡ Some k → IsCertificateNumber k
unless_never_number None k e = is_some_number 406 k (omega arith, omega arith) e
unless_never_number (Some Unassigned) k e = is_some_number 413 k (omega arith, omega arith) e
unless_never_number (Some Differing) k e = is_some_number 409 k (omega arith, omega arith) e
unless_never_number (Some Many) k e = is_some_number 408 k (omega arith, omega arith) e
unless_never_number (Some Once) k e = is_some_number 415 k (omega arith, omega arith) e
unless_never_number (Some Never) k e = absurd cc

judge_number : (net : Net) (t : Target) (b : Bounds) (leaf : Option Counted) (k : ℕ) → judge_of net t b leaf ≡ Some k
    → IsCertificateNumber k
judge_number net t b None k e = unless_never_number (path_verdict net b t.crossings) k e
judge_number net t b (Some leaf) k e = unless_same_number leaf (path_verdict net b t.crossings)
    (numbers_of (counter net b t.crossings)) k e

leaf_number : (made : ℕ) (found : Option ℕ) (gs : List Goal) (k : LineFault)
    → ((n : ℕ) → found ≡ Some n → IsCertificateNumber n) → leaf_answer made found gs ≡ Err k
    → IsCertificateNumber (number_of k)
leaf_number made found gs k h e = go (nat_le 1000000 made) found h e where
  go : (b : Bool) (found : Option ℕ) → ((n : ℕ) → found ≡ Some n → IsCertificateNumber n)
      → (if b then Err faults.LineCount else unless_wrong found gs) ≡ Err k → IsCertificateNumber (number_of k)
  go true found h e = is_fault faults.LineCount k (omega arith, omega arith) e
  go false None h e = absurd cc
  go false (Some n) h e = is_fault (faults.Leaf n) k (h n refl) e

-- ---- a split

split_number : (made : ℕ) (b : Bounds) (d j at : ℕ) (gs : List Goal) (k : LineFault) → split_answer made b d j at gs
    ≡ Err k → IsCertificateNumber (number_of k)
split_number made b d j at gs k e = go (nat_le 1000000 made) (nat_le 512 d)
    (nat_lt (slice_index b.low j) at && nat_le at (slice_index b.high j)) e where
      go : (many deep inside : Bool) → (if many then Err faults.LineCount else if deep then Err faults.SplitDepth
          else if inside then Ok gs else Err faults.SplitPlace) ≡ Err k → IsCertificateNumber (number_of k)
      go true deep inside e = is_fault faults.LineCount k (omega arith, omega arith) e
      go false true inside e = is_fault faults.SplitDepth k (omega arith, omega arith) e
      go false false true e = absurd cc
      go false false false e = is_fault faults.SplitPlace k (omega arith, omega arith) e

-- ---- an item

opening_number : (t : Target) (gs : List Goal) (c m : ℕ) (k : LineFault) (b : Bool)
    → (if b then Ok gs else Err faults.Place) ≡ Err k → IsCertificateNumber (number_of k)
opening_number t gs c m k true e = absurd cc
opening_number t gs c m k false e = is_fault faults.Place k (omega arith, omega arith) e

after_number : (net : Net) (made : ℕ) (gs : List Goal) (i : Item) (k : LineFault) → after (judge_of net) made gs i
    ≡ Err k → IsCertificateNumber (number_of k)
after_number net made [] i k e = is_fault faults.BehindEnd k (omega arith, omega arith) e
after_number net made (header ts ∷ gs) (item.Header v) k e = absurd cc
after_number net made (header ts ∷ gs) (item.Class c m) k e = is_fault faults.Header k (omega arith, omega arith) e
after_number net made (header ts ∷ gs) (item.Leaf crossing point process) k e =
    is_fault faults.Header k (omega arith, omega arith) e
after_number net made (header ts ∷ gs) (item.Split a at) k e = is_fault faults.Header k (omega arith, omega arith) e
after_number net made (header ts ∷ gs) item.Never k e = is_fault faults.Header k (omega arith, omega arith) e
after_number net made (header ts ∷ gs) item.End k e = is_fault faults.Header k (omega arith, omega arith) e
after_number net made (opening t ∷ gs) (item.Header v) k e = is_fault faults.Place k (omega arith, omega arith) e
after_number net made (opening t ∷ gs) (item.Class c m) k e = opening_number t gs c m k (c == t.class && m == t.path) e
after_number net made (opening t ∷ gs) (item.Leaf crossing point process) k e =
    is_fault faults.Place k (omega arith, omega arith) e
after_number net made (opening t ∷ gs) (item.Split a at) k e = is_fault faults.Place k (omega arith, omega arith) e
after_number net made (opening t ∷ gs) item.Never k e = is_fault faults.Place k (omega arith, omega arith) e
after_number net made (opening t ∷ gs) item.End k e = is_fault faults.Place k (omega arith, omega arith) e
after_number net made (tree z t b d ∷ gs) (item.Header v) k e = is_fault faults.Place k (omega arith, omega arith) e
after_number net made (tree z t b d ∷ gs) (item.Class c m) k e = is_fault faults.Place k (omega arith, omega arith) e
after_number net made (tree z t b d ∷ gs) (item.Leaf crossing point process) k e =
    unless_misplaced t.exempt _ k (leaf_number made
    (judge_of net t b (Some (record { crossing = crossing; point = point; process = process }))) gs k
    (judge_number net t b (Some (record { crossing = crossing; point = point; process = process })))) e
after_number net made (tree z t b d ∷ gs) (item.Split a at) k e =
    split_number made b d (axis_index a) at (parts z t b d (axis_index a) at gs) k e
after_number net made (tree z t b d ∷ gs) item.Never k e =
    only_in_place (may_say_never z t) _ k (leaf_number made (judge_of net t b None) gs k (judge_number net t b None)) e
after_number net made (tree z t b d ∷ gs) item.End k e = is_fault faults.Place k (omega arith, omega arith) e
after_number net made (close ∷ gs) (item.Header v) k e = is_fault faults.Place k (omega arith, omega arith) e
after_number net made (close ∷ gs) (item.Class c m) k e = is_fault faults.Place k (omega arith, omega arith) e
after_number net made (close ∷ gs) (item.Leaf crossing point process) k e =
    is_fault faults.Place k (omega arith, omega arith) e
after_number net made (close ∷ gs) (item.Split a at) k e = is_fault faults.Place k (omega arith, omega arith) e
after_number net made (close ∷ gs) item.Never k e = is_fault faults.Place k (omega arith, omega arith) e
after_number net made (close ∷ gs) item.End k e = absurd cc

-- ---- a line

form_number : (gs : List Goal) → IsCertificateNumber (number_of (form_fault gs))
form_number [] = (omega arith, omega arith)
form_number (header ts ∷ gs) = (omega arith, omega arith)
form_number (opening t ∷ gs) = (omega arith, omega arith)
form_number (tree z t b d ∷ gs) = (omega arith, omega arith)
form_number (close ∷ gs) = (omega arith, omega arith)

-- a line was refused
pub line_fault : (net : Net) (made : ℕ) (gs : List Goal) (r : LineReading) (k n : ℕ)
    → after_reading (judge_of net) made gs r ≡ Err k → IsCheckFault (at_line k n)
line_fault net made gs long k n e = subst (λ m. IsCheckFault (at_line m n)) (ap (number_or 0) e) (too_long n)
line_fault net made gs cut k n e = wrong k n (is_number 405 k (omega arith, omega arith) e)
line_fault net made gs malformed k n e = wrong k n (is_number (number_of (form_fault gs)) k (form_number gs) e)
line_fault net made gs (says i) k n e = wrong k n (by (after (judge_of net) made gs i) refl e) where
  by : (r : Result (List Goal) LineFault) → after (judge_of net) made gs i ≡ r → by_number r ≡ Err k
      → IsCertificateNumber k
  by (Ok left) is e = absurd cc
  by (Err fault) is e = is_number (number_of fault) k (after_number net made gs i fault is) e

-- the text has ended too early
pub end_fault : (n : ℕ) (gs : List Goal) (e : Fault) (last : ℕ) → at_end n gs
    ≡ Some (record { fault = e; last = last; behind = [] }) → IsCheckFault e
end_fault n [] e last h = absurd cc
end_fault n (g ∷ gs) e last h = subst IsCheckFault (ap fault_or h)
    (wrong 405 (next_number n) (omega arith, omega arith)) where
      fault_or : Option Refusal → Fault
      fault_or None = e
      fault_or (Some r) = r.fault

-- the reader itself has refused, which it hadn't before unless it had at first
pub reader_fault : (first old new : Lines) (e : Fault) → ((f : Fault) → old.stopped ≡ Some f → first.stopped ≡ Some f)
    → RefusesText old new e → IsReportedBy first e
reader_fault first old new e before h = by_stopped old.stopped refl h.again h.first where
  by_stops : StopsText old new e → IsReportedBy first e
  by_stops (inl k) = inr (subst IsCheckFault (sym k.0) device)
  by_stops (inr k) = inr (subst IsCheckFault (sym k.0) (too_long (next_number old.number)))

  by_stopped : (s : Option Fault) → old.stopped ≡ s → IfSome s (λ f. e ≡ f) → (s ≡ None → StopsText old new e)
      → IsReportedBy first e
  by_stopped (Some f) is again stops = inl (before e (is ∙ ap (λ (x : Fault). Some x) (sym again)))
  by_stopped None is again stops = by_stops (stops refl)

-- memory is wanting
pub from_memory : (lines : Lines) (e : Fault) → e ≡ fault_at 900 places.None → IsReportedBy lines e
from_memory lines e is = inr (subst IsCheckFault (sym is) memory)
