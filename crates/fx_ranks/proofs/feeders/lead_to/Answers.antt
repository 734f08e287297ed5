use Rattle.std.proofs.Common.{◌≡◌, ℕ, ◌||◌, List, [], ◌∷◌, Option, Some, None, refl, ◌∙◌, slice_get}
use Rattle.std.specs.List.{list_any}
use Rattle.fx_tables.specs.Network.{Net, Exporter, at_places, before}
use Rattle.fx_ranks.specs.Feeding.{leads_at, lead_to}
use Rattle.fx_ranks.proofs.feeders.lead_to.Goals as goal

before_leads : (net : Net) (process : ℕ) (o : Option Exporter) (rest : List Exporter)
    → lead_to net process (before o rest) ≡ (leads_at net process o || lead_to net process rest)
before_leads net process None rest = refl
before_leads net process (Some exporter) rest = refl

all_lead : (net : Net) (process : ℕ) (places : List ℕ)
    → list_any (λ place. leads_at net process (slice_get net.exporters place)) places
    ≡ lead_to net process (at_places net.exporters places)
all_lead net process [] = refl
all_lead net process (place ∷ places) =
    rw (
      before_leads net process (slice_get net.exporters place) (at_places net.exporters places),
      all_lead net process
          places,
    ) refl

pub returns : goal.returns
returns c = c.any_leads.ensures ∙ all_lead c.args.linked.now c.args.process c.args.places.now
