-- Records that are put one after another have the messages of those that are sent together.
use Rattle.std.proofs.Common.{◌≡◌, ℕ, ◌+◌, ◌^◌, ◌≤◌, Bool, true, false, cond, lt-ltb, ltb-true, List, [], ◌∷◌, ◌++◌, length, refl, ap, sym, ◌∙◌, arith, append_assoc, length-append}
use Rattle.std.proofs.lemmas.List.{append-nil}
use Rattle.fx_tables.specs.declared.record.Record.{Record}
use Rattle.fx_link.proofs.StreamTrip.{joins_on}
use Rattle.fx_link.specs.Sending.{Begun, IsSent, layout_of, knows, has_room, has_room_for, Sender, batch_octets, after_batch, joins, one_batch, batches_from, after_batches, stream_octets, after_sent, sent_octets}
use Rattle.fx_link.specs.Outgoing.{Waiting, IsWaiting, Outgoing, with_octets, after_flush, with_all}

-- what is left of some batches: their messages, and no record that waits
abbrev sent_behind : ℕ → Sender → List ℕ → List (List Record) → Outgoing
sent_behind time s octets bs = record {
  sender = after_batches s bs;
  batch = [];
  octets = octets
      ++ stream_octets time s bs;
}

flush_closed : (time : ℕ) (s : Sender) (batch : List Record) (octets : List ℕ)
    → after_flush time (record { sender = s; batch = batch; octets = octets })
    ≡ sent_behind time s octets (one_batch batch)
flush_closed time s [] octets = ap (λ (l : List ℕ). let o : Outgoing = record { sender = s; batch = []; octets = l } in
    o) (sym (append-nil octets))
flush_closed time s (r ∷ rs) octets =
    ap (λ (l : List ℕ). let o : Outgoing = record { sender = after_batch s (r ∷ rs); batch = []; octets = octets ++ l }
    in o) (sym (append-nil (batch_octets time s (r ∷ rs))))

-- a batch that is closed goes before the others
closed_first : (time : ℕ) (s : Sender) (batch : List Record) (octets : List ℕ) (bs : List (List Record))
    → sent_behind time (after_flush time (record { sender = s; batch = batch; octets = octets })).sender
    (after_flush time (record { sender = s; batch = batch; octets = octets })).octets bs
    ≡ sent_behind time s octets (one_batch batch ++ bs)
closed_first time s [] octets bs = refl
closed_first time s (r ∷ rs) octets bs =
    ap (λ (l : List ℕ). let o : Outgoing = record {
      sender = after_batches (after_batch s (r ∷ rs)) bs;
      batch =
          [];
      octets = l;
    } in o)
    (append_assoc octets (batch_octets time s (r ∷ rs)) (stream_octets time (after_batch s (r ∷ rs)) bs))

flush_from : (time : ℕ) (s : Sender) (batch rs : List Record) (octets : List ℕ)
    → after_flush time (with_all time (record { sender = s; batch = batch; octets = octets }) rs)
    ≡ sent_behind time s octets (batches_from batch rs)
flush_from time s [] [] octets = flush_closed time s [] octets
flush_from time s (b ∷ bs) [] octets = flush_closed time s (b ∷ bs) octets
flush_from time s batch (r ∷ rs) octets =
    by (flush_from time s (batch ++ r ∷ []) rs octets) (λ t l. flush_from time t (r ∷ []) rs l) (joins batch r) where
      by : after_flush time (with_all time (record { sender = s; batch = batch ++ r ∷ []; octets = octets }) rs)
          ≡ sent_behind time s octets (batches_from (batch ++ r ∷ []) rs)
          → ((t : Sender) (l : List ℕ) → after_flush time
          (with_all time (record { sender = t; batch = r ∷ []; octets = l }) rs)
          ≡ sent_behind time t l (batches_from (r ∷ []) rs)) → (t : Bool)
          → after_flush time (with_all time (cond t (record { sender = s; batch = batch ++ r ∷ []; octets = octets })
          (record (after_flush time (record { sender = s; batch = batch; octets = octets })) { batch = r ∷ [] }))
          rs)
          ≡ sent_behind time s octets (cond t (batches_from (batch ++ r ∷ []) rs)
          (one_batch batch ++ batches_from (r ∷ []) rs))
      by on new true = on
      by on new false =
          let o : Outgoing = after_flush time (record { sender = s; batch = batch; octets = octets }) in
          new o.sender o.octets ∙ closed_first time s batch octets (batches_from (r ∷ []) rs)

pub flushes_are_sent : (time : ℕ) (s : Sender) (octets : List ℕ) (rs : List Record)
    → after_flush time (with_all time (record { sender = s; batch = []; octets = octets }) rs)
    ≡ record { sender = after_sent s rs; batch = []; octets = octets ++ sent_octets time s rs }
flushes_are_sent time s octets rs = flush_from time s [] rs octets

pub flushed_none : (time : ℕ) (o : Outgoing) → (after_flush time o).batch ≡ []
flushed_none time o = by o.batch where
  by : (batch : List Record) → (after_flush time (record { sender = o.sender; batch = batch; octets = o.octets })).batch
      ≡ []
  by [] = refl
  by (r ∷ rs) = refl

-- ---- ids are left

less_room : (s : Sender) → has_room 2 s ≡ true → has_room 1 s ≡ true
less_room s h = lt-ltb (256 + 1 + length s.layouts) (2 ^ 16)
    (omega (arith, ltb-true (256 + 2 + length s.layouts) (2 ^ 16) h))

one_layout : (s : Sender) (batch : List Record) → length (after_batch s batch).layouts ≤ length s.layouts + 1
one_layout s batch = by (knows s.layouts (layout_of batch)) where
  by : (k : Bool) → length (cond k s.layouts (s.layouts ++ layout_of batch ∷ [])) ≤ length s.layouts + 1
  by true = omega arith
  by false = omega (arith, length-append s.layouts (layout_of batch ∷ []))

sent_room : (s : Sender) (batch : List Record) → has_room 2 s ≡ true → has_room 1 (after_batch s batch) ≡ true
sent_room s batch h =
    lt-ltb (256 + 1 + length (after_batch s batch).layouts) (2 ^ 16)
    (omega (arith, one_layout s batch, ltb-true (256 + 2 + length s.layouts) (2 ^ 16) h))

flushed_room : (time : ℕ) (o : Outgoing) → has_room 2 o.sender ≡ true → has_room 1 (after_flush time o).sender ≡ true
flushed_room time o h = by o.batch where
  by : (batch : List Record) → has_room 1
      (after_flush time (record { sender = o.sender; batch = batch; octets = o.octets })).sender ≡ true
  by [] = less_room o.sender h
  by (r ∷ rs) = sent_room o.sender (r ∷ rs) h

-- where a record joins those that wait, and an id is left, they still can wait
pub waits_on : (w : Waiting) (r : Record) → has_room 1 w.sender ≡ true → Begun w.batch → IsSent r → joins w.batch r
    ≡ true → IsWaiting (record { sender = w.sender; batch = w.batch ++ r ∷ [] })
waits_on w r h b s j = record { batch = joins_on w.batch r b s j; room = by w.batch } where
  by : (batch : List Record) → has_room_for (batch ++ r ∷ []) w.sender ≡ true
  by [] = h
  by (x ∷ xs) = h

-- a record joins what it shares a message with, or what waits once this was flushed
pub record Takes (w : Waiting) (r : Record) : Type 0 where
  pub room : has_room 1 w.sender ≡ true
  pub joined : joins w.batch r ≡ true

pub takes_flushed : (time : ℕ) (w : Waiting) (octets others : List ℕ) (old : Waiting) (r : Record)
    → has_room 2 old.sender ≡ true → with_octets w others ≡ after_flush time (with_octets old octets) → Takes w r
takes_flushed time w octets others old r h e =
    let none : w.batch ≡ [] = ap (λ (o : Outgoing). o.batch) e ∙ flushed_none time (with_octets old octets) in
    record {
      room = ap (λ (o : Outgoing). has_room 1 o.sender) e ∙ flushed_room time (with_octets old octets) h;
      joined = ap (λ (b : List Record). joins b r) none;
    }

pub takes_same : (w old : Waiting) (r : Record) (t : Bool) → has_room 2 old.sender ≡ true → w ≡ old → t
    ≡ joins old.batch r → t ≡ true → Takes w r
takes_same w old r t h e j k =
    record {
      room = ap (λ (x : Waiting). has_room 1 x.sender) e ∙ less_room old.sender h;
      joined =
          ap (λ (x : Waiting). joins x.batch r) e ∙ sym j ∙ k;
    }
