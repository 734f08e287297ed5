-- The state of a checker, what the next line must be, and the line at which the checker stops.
use Rattle.std.specs.Prelude.{◌≡◌, ℕ, List, [], ◌∷◌, Some, Err}
use Rattle.fx_base.specs.declared.fault.Fault.{Fault}
use Rattle.fx_base.specs.Lines.{Lines, AtLine, AtTextEnd, RefusesText}
use Rattle.fx_tables.specs.Network.{Net}
use Rattle.fx_traffic.specs.Targets.{Target}
use Rattle.fx_check.specs.declared.progress.Progress.{Progress}
use Rattle.fx_check.specs.declared.due.Due.{Due}
use Rattle.fx_check.specs.declared.due.Due.TheVariants as due
use Rattle.fx_check.specs.FirstRefusal.{Goal, header, opening, tree, close, whole, reading_of, after_reading, at_line, at_end}
use Rattle.fx_check.specs.Judging.{Judge, judge_of}
use Rattle.fx_check.specs.Outcomes.{Continues}
use Rattle.fx_check.specs.Remaining.{goals}

-- a checker: its network, the targets of its certificate, what must still follow, and the number of split and leaf
-- lines so far
pub record CheckerState : Type 0 where
  pub net : Net
  pub targets : List Target
  pub goals : List Goal
  pub made : ℕ

-- the checker is before the first line
abbrev pub IsBeforeFirst : CheckerState → Type 0
IsBeforeFirst c = (c.goals ≡ whole c.targets) × (c.made ≡ 0)

abbrev pub state_of : Net → List Target → Progress → CheckerState
state_of net ts c = record { net = net; targets = ts; goals = goals ts c; made = c.made }

-- what is due, given what must still follow
abbrev pub IsDue : List Goal → Due → Type 0
IsDue [] due.Nothing = Unit {0}
IsDue (header ts ∷ gs) due.Header = Unit {0}
IsDue (opening t ∷ gs) (due.Target target) = target.now ≡ t
IsDue (tree v t b d ∷ gs) (due.Tree version target region depth) = (version ≡ v) × (target.now ≡ t) × (region.now ≡ b)
    × (depth ≡ d)
IsDue (close ∷ gs) due.End = Unit {0}
IsDue _ _ = ⊥

-- why a checker stops when its reader goes from `now` to `new`, given what must still follow
pub data StopsAt (judge : Judge) (made : ℕ) (gs : List Goal) (now new : Lines) (e : Fault) : Type 0 where
  -- the reader itself returns a fault
  reader : RefusesText now new e → StopsAt judge made gs now new e
  -- the reader's current line is refused
  line : (number : ℕ) → AtLine now new → after_reading judge made gs (reading_of (new.line, new.ended)) ≡ Err number → e
      ≡ at_line number new.number → StopsAt judge made gs now new e
  -- the text ends too early
  early : AtTextEnd now new → at_end new.number gs ≡ Some (record { fault = e; last = new.number; behind = [] })
      → StopsAt judge made gs now new e

-- a checker that began at the line after `first` stops with the reader at `new`: its remaining goals are those that it
-- had when it requested the line at which it stopped
pub record IsStop (first new : Lines) (c : CheckerState) (e : Fault) : Type 0 where
  pub now : Lines
  pub before : Continues (judge_of c.net) first (whole c.targets) now c.made c.goals
  pub stops : StopsAt (judge_of c.net) c.made c.goals now new e
