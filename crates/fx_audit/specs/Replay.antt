-- What results from replaying a run, and what is printed: the collector's totals in its last state, and whether the run
-- is complete.
use Rattle.std.specs.Prelude.{◌≡◌, ℕ, ◌↔◌, ◌⊎◌, All, Ok, Err, Bool, true, false, List, [], ◌∷◌, ◌++◌, codes, IsTrue, IsPermutation}
use Rattle.fx_layout.specs.Keys.{Layout}
use Rattle.fx_base.specs.declared.fault.Fault.{Fault}
use Rattle.fx_base.specs.declared.fault.Place.TheVariants as places
use Rattle.fx_base.specs.Fault.{fault_at}
use Rattle.fx_base.specs.Lines.{Lines}
use Rattle.fx_tables.specs.Network.{Net}
use Rattle.fx_base.specs.Entries.{entry_numbered}
use Rattle.fx_base.specs.Refusals.{run_packet}
use Rattle.fx_tables.specs.Classes.{Class, IsOf}
use Rattle.fx_machine.specs.States.{State, Complete, opening}
use Rattle.fx_machine.specs.Steps.{run}
use Rattle.fx_run_text.specs.RunText.{Run}
use Rattle.fx_run_text.specs.RunReading.{MayReadRun}
use Rattle.fx_collect.specs.Totals.{Totals}
use Rattle.fx_collect.specs.Report.{KeysAscend, totals_text}

abbrev pub complete_line : Bool → List ℕ
complete_line true = codes "complete yes" ++ 10 ∷ []
complete_line false = codes "complete no" ++ 10 ∷ []

-- the text of a state: its totals with their keys in ascending order, and a line that says whether the state is
-- complete
pub record IsTextOf (layout : Layout) (s : State) (text : List ℕ) : Type 0 where
  pub totals : Totals
  pub entries : IsPermutation s.totals totals.entries
  pub ascending : KeysAscend totals.entries
  pub layout_is : totals.layout ≡ layout
  pub unassigned : totals.unassigned ≡ s.unassigned
  pub complete : Bool
  pub is_complete : IsTrue complete ↔ Complete s
  pub text_is : text ≡ totals_text totals ++ complete_line complete

-- why a run can't be replayed: a packet isn't in its class, or a step is refused, the first of them with this number
abbrev pub IsRefused : Net → List Class → Run → Fault → Type 0
IsRefused net classes r e =
    ((e ≡ fault_at run_packet places.None) × (All (λ packet. IsOf packet (entry_numbered classes packet.class))
    r.packets → ⊥))
    ⊎ ((e.place ≡ places.None) × (run net classes r.packets r.steps (opening net classes r.packets) ≡ Err e.number))

-- the run that these lines describe leads to this state
abbrev pub ComesTo : Net → List Class → Lines → State → Type 0
ComesTo net classes lines last =
    (r : Run) × MayReadRun classes lines (Ok r)
    × (run net classes r.packets r.steps (opening net classes r.packets) ≡ Ok last)

-- these lines describe no run, or one that can't be replayed
abbrev pub CannotReplay : Net → List Class → Lines → Fault → Type 0
CannotReplay net classes lines e =
    MayReadRun classes lines (Err e) ⊎ ((r : Run) × MayReadRun classes lines (Ok r) × IsRefused net classes r e)
