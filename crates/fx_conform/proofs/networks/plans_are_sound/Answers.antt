use Rattle.std.proofs.Common.{◌∙◌, ap, subst}
use Rattle.fx_tables.specs.Network.{Net}
use Rattle.fx_tables.specs.Ranks.{IsNetwork}
use Rattle.fx_tables.specs.Runnable.{IsRunnable}
use Rattle.fx_conform.specs.Sendable.{HaveLayouts}
use Rattle.fx_conform.proofs.networks.plans_are_sound.Goals as goal

pub returns : goal.returns
returns c = record {
  network = subst IsNetwork c.net-net.ensures.value c.net-net.ensures.network;
  runnable = subst IsRunnable c.net-net.ensures.value c.net-net.ensures.runnable;
  leads = c.upwards-ranked.ensures.whole.leads;
  layouts = subst HaveLayouts (c.holders.ensures ∙ ap (λ (n : Net). n.holders) c.net-net.ensures.value)
      c.have_layouts.ensures;
}
