-- What the confirmation of a refutation answers, and what it prints.
use Rattle.std.specs.Prelude.{◌≡◌, ◌⊎◌, ◌==◌, ℕ, List, ◌++◌, codes, Some, Ok, Err, IsPermutation, if◌then◌else◌}
use Rattle.fx_base.specs.declared.fault.Fault.{Fault}
use Rattle.fx_base.specs.declared.fault.Place.TheVariants as places
use Rattle.fx_base.specs.Fault.{fault_at}
use Rattle.fx_base.specs.Lines.{Lines}
use Rattle.fx_base.specs.Refusals.{refutation_first, refutation_form, refutation_last}
use Rattle.fx_tables.specs.Classes.{Class}
use Rattle.fx_topology.specs.declared.network.NetworkDocument.{NetworkDocument}
use Rattle.fx_plan.specs.Tables.{net_of}
use Rattle.fx_collect.specs.Totals.{Totals}
use Rattle.fx_collect.specs.Report.{KeysAscend, totals_text}
use Rattle.fx_refute.specs.RefutationReading.{MayReadRefutation}
use Rattle.fx_refute.specs.Refutations.{AreTotals, IsNoRefutation, Refutation, Refutes}
use Rattle.fx_checker.specs.declared.answer.Answer.{Answer}
use Rattle.fx_checker.specs.declared.answer.Answer.TheVariants.{Yes, No, Unknown}
use Rattle.fx_checker.specs.Checks.{IsWithin, no_line}

-- ---- what is printed

-- the totals of the run, and the plain sums
abbrev pub refuted_text : Totals → Totals → List ℕ
refuted_text ran plain =
    codes "refuted\nrun\n" ++ (totals_text ran ++ (codes "plain\n" ++ totals_text plain))

-- ---- what is answered

-- a refusal as the answer prints it: without its place if the text isn't a well-formed refutation
abbrev pub printed_refusal : Fault → Fault
printed_refusal e = if e.number == refutation_form then fault_at e.number places.None else e

-- a refusal with this number means that the answer is no
abbrev pub RefutesNothing : ℕ → Type 0
RefutesNothing number = IsWithin refutation_first refutation_last number

-- the same totals, with their keys in ascending order
pub record IsInOrder (t sorted : Totals) : Type 0 where
  pub entries : IsPermutation t.entries sorted.entries
  pub ascending : KeysAscend sorted.entries
  pub layout_is : sorted.layout ≡ t.layout
  pub unassigned : sorted.unassigned ≡ t.unassigned

-- the text is a refutation that refutes; `ran` and `plain` are the totals of its run and the plain sums, in ascending
-- order
pub record IsRefuted (network : NetworkDocument) (classes : List Class) (lines : Lines) (ran plain : Totals) : Type 0
  where
    pub refutation : Refutation
    pub said : MayReadRefutation lines (Ok refutation)
    pub refutes : Refutes (net_of network) classes refutation
    pub ran_found : Totals
    pub plain_found : Totals
    pub totals : AreTotals (net_of network) classes refutation ran_found plain_found
    pub ran_in_order : IsInOrder ran_found ran
    pub plain_in_order : IsInOrder plain_found plain

-- the refutation refutes, and both totals are printed
pub record IsYes (network : NetworkDocument) (classes : List Class) (lines : Lines) (text : List ℕ) : Type 0 where
  pub ran : Totals
  pub plain : Totals
  pub refuted : IsRefuted network classes lines ran plain
  pub text_is : text ≡ refuted_text ran plain

-- the text isn't a well-formed refutation, or it refutes nothing
abbrev pub IsRefusedRefutation : NetworkDocument → List Class → Lines → Fault → Type 0
IsRefusedRefutation network classes lines e =
    MayReadRefutation lines (Err e)
    ⊎ ((r : Refutation) × MayReadRefutation lines (Ok r) × IsNoRefutation (net_of network) classes r e)

-- the refutation is refused with a number that means no; or the reader had already stopped with such a fault
pub record IsNo (network : NetworkDocument) (classes : List Class) (lines : Lines) (text : List ℕ) : Type 0 where
  pub fault : Fault
  pub means_no : RefutesNothing fault.number
  pub refused : (lines.stopped ≡ Some fault) ⊎ IsRefusedRefutation network classes lines fault
  pub text_is : text ≡ no_line (printed_refusal fault)

-- the answer for a refutation in this network and traffic, and the text that is printed
abbrev pub IsConfirmedIn : NetworkDocument → List Class → Lines → Answer → List ℕ → Type 0
IsConfirmedIn network classes lines Yes text = IsYes network classes lines text
IsConfirmedIn network classes lines No text = IsNo network classes lines text
IsConfirmedIn network classes lines Unknown text = ⊥

-- the refutation is refused with a number that doesn't mean no
abbrev pub IsRefusedOtherwise : NetworkDocument → List Class → Lines → Fault → Type 0
IsRefusedOtherwise network classes lines e =
    IsRefusedRefutation network classes lines e × (RefutesNothing e.number → ⊥)
