-- Records that leave some holders, and what is set at another.
use Rattle.std.proofs.Common.{◌≡◌, ℕ, List, [], ◌∷◌, ◌++◌, refl, sym, ◌∙◌, subst, Some, slice_get, slice_set}
use Rattle.std.proofs.lemmas.List.{set_comm}
use Rattle.fx_tables.specs.declared.record.Record.{Record}
use Rattle.fx_machine.specs.States.{without}
use Rattle.fx_conform.specs.Held.{Leaver, AllLeave}
use Rattle.fx_conform.proofs.Places.{at_other}

-- ---- one after another

pub leave_join : (ls more : List Leaver) (held mid now : List (List Record)) → AllLeave ls held mid
    → AllLeave more mid now → AllLeave (ls ++ more) held now
leave_join [] more held mid now h g = subst (λ (rss : List (List Record)). AllLeave more rss now) h g
leave_join (l ∷ ls) more held mid now h g = (h.0, h.1, leave_join ls more h.0 mid now h.2 g)

-- ---- elsewhere

-- none leaves the holder at this place
abbrev pub NoneAt : ℕ → List Leaver → Type 0
NoneAt n [] = Unit {0}
NoneAt n (l ∷ ls) = (n ≡ l.holder → ⊥) × NoneAt n ls

pub none_join : (n : ℕ) (ls more : List Leaver) → NoneAt n ls → NoneAt n more → NoneAt n (ls ++ more)
none_join n [] more h g = g
none_join n (l ∷ ls) more h g = (h.0, none_join n ls more h.1 g)

-- what leaves where something else was set at the place would leave before, and the place is as it was
pub record Before (n : ℕ) (new : List Record) (ls : List Leaver) (held now : List (List Record)) : Type 0 where
  pub room : List (List Record)
  pub leave : AllLeave ls held room
  pub same : slice_get room n ≡ slice_get held n
  pub now_is : slice_set room n new ≡ now

pub leave_before : (n : ℕ) (new : List Record) (ls : List Leaver) (held now : List (List Record)) → NoneAt n ls
    → AllLeave ls (slice_set held n new) now → Before n new ls held now
leave_before n new [] held now none h = record { room = held; leave = refl; same = refl; now_is = sym h }
leave_before n new (l ∷ ls) held now none h =
    let there : slice_get held l.holder ≡ Some h.1.rs = sym (at_other held n l.holder new (λ e. none.0 (sym e)))
    ∙ h.1.there in
    let mid : List (List Record) = slice_set held l.holder (without h.1.rs h.1.number) in
    let mid_is : h.0 ≡ slice_set mid n new = h.1.now_is
    ∙ set_comm held n l.holder new (without h.1.rs h.1.number) none.0 in
    let rest = leave_before n new ls mid now none.1
    (subst (λ (rss : List (List Record)). AllLeave ls rss now) mid_is h.2) in
    record {
      room = rest.room;
      leave = (
        mid,
        record { number = h.1.number; rs = h.1.rs; there = there; flow_is = h.1.flow_is; now_is = refl },
        rest.leave,
      );
      same = rest.same ∙ at_other held l.holder n (without h.1.rs h.1.number) none.0;
      now_is = rest.now_is;
    }
