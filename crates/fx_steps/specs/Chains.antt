-- The numbers of steps in which a packet can have a given fate, along one list of acts in the order of a run.
use Rattle.std.specs.Prelude.{◌≡◌, true, false, ℕ, suc, ◌+◌, ◌<◌, List, [], ◌∷◌, length, Option, Some, None, slice_get}
use Rattle.fx_layout.specs.Keys.{Key}
use Rattle.fx_tables.specs.Network.{Net, Exporter}
use Rattle.fx_base.specs.Entries.{entry_numbered}
use Rattle.fx_machine.specs.Acts.{Act, Tally, Send, Hold}
use Rattle.fx_machine.specs.Steps.{acts_of_leaving, acts_of_arrival}
use Rattle.fx_leaf.specs.declared.verdict.Fate.{Fate}
use Rattle.fx_leaf.specs.declared.verdict.Fate.TheVariants.{Never}
use Rattle.fx_leaf.specs.Fates.{both}
use Rattle.fx_tables.specs.Runnable.{IsHolder}
use Rattle.fx_steps.specs.Ways.{tally_fate}

-- an exporting process that sends each record to all of these destinations, or to any one of them
abbrev pub all_of : List (Option ℕ) → Exporter
all_of destinations = record { parallel = true; destinations = destinations }

abbrev pub any_of : List (Option ℕ) → Exporter
any_of destinations = record { parallel = false; destinations = destinations }

pub data Chain (net : Net) : List Act → Fate → ℕ → Type 0 where
  no_act : Chain net [] Never 0
  tally : (key : Key) (acts : List Act) (f : Fate) (n : ℕ) → Chain net acts f n
      → Chain net (Tally key ∷ acts) (both (tally_fate net key) f) n
  hold : (holder : ℕ) (key : Key) (acts : List Act) (f g : Fate) (m n : ℕ) → IsHolder net holder
      → Chain net (acts_of_leaving net holder key) f m → Chain net acts g n
      → Chain net (Hold holder key ∷ acts) (both f g) (suc (m + n))
  send_end : (key : Key) (acts : List Act) (f : Fate) (n : ℕ) → Chain net acts f n
      → Chain net (Send (all_of []) key ∷ acts) f n
  send_out : (ds : List (Option ℕ)) (key : Key) (acts : List Act) (f : Fate) (n : ℕ)
      → Chain net (Send (all_of ds) key ∷ acts) f n → Chain net (Send (all_of (None ∷ ds)) key ∷ acts) f n
  send_on : (link : ℕ) (ds : List (Option ℕ)) (key : Key) (acts : List Act) (f g : Fate) (m n : ℕ) → link
      < length net.links → Chain net (acts_of_arrival net key (slice_get net.links link)) f m
      → Chain net (Send (all_of ds) key ∷ acts) g n
      → Chain net (Send (all_of (Some link ∷ ds)) key ∷ acts) (both f g) (suc (m + n))
  choose : (ds : List (Option ℕ)) (number : ℕ) (d : Option ℕ) (key : Key) (acts : List Act) (f : Fate) (n : ℕ)
      → entry_numbered ds number ≡ Some d → Chain net (Send (all_of (d ∷ [])) key ∷ acts) f n
      → Chain net (Send (any_of ds) key ∷ acts) f n
