-- A record put on several links.
use Rattle.std.specs.Prelude.{ℕ, List, [], ◌∷◌, ◌++◌, drop, option_and_then, Option, Some, None, if◌then◌else◌}
use Rattle.fx_tables.specs.declared.record.Record.{Record}
use Rattle.fx_tables.specs.Network.{Exporter}
use Rattle.fx_base.specs.Entries.{entry_numbered}
use Rattle.fx_machine.specs.States.{put_last}
use Rattle.fx_machine.specs.Acts.{Choices}

abbrev pub put_all : List ℕ → Record → List (List Record) → List (List Record)
put_all [] r rss = rss
put_all (l ∷ ls) r rss = put_all ls r (put_last rss l r)

abbrev pub link_list : Option ℕ → List ℕ
link_list None = []
link_list (Some link) = link ∷ []

abbrev pub links_of : List (Option ℕ) → List ℕ
links_of [] = []
links_of (d ∷ ds) = link_list d ++ links_of ds

-- the chosen links, and the remaining choices
pub record Chosen : Type 0 where
  pub links : List ℕ
  pub rest : Choices

-- the destination that the next choice names
abbrev pub next_destination : List (Option ℕ) → Choices → Option (Option ℕ)
next_destination destinations [] = None
next_destination destinations (None ∷ choices) = None
next_destination destinations (Some n ∷ choices) = entry_numbered destinations n

-- the links of each exporting process in order, appended to these
abbrev pub chosen_from : List ℕ → List Exporter → Choices → Option Chosen
chosen_from links [] choices = Some (record { links = links; rest = choices })
chosen_from links (e ∷ es) choices =
    if e.parallel
    then chosen_from (links ++ links_of e.destinations) es choices
    else option_and_then (λ d. chosen_from (links ++ link_list d) es (drop 1 choices))
    (next_destination e.destinations choices)
