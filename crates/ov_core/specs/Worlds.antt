-- What all lanes share while their lines run, and what each event of a lane makes of it.
use Rattle.std.specs.Prelude.{ℕ, ◌+◌, ◌%◌, length, ◌<◌, ◌≡◌, List, [], ◌∷◌, ◌++◌, map, filter, replicate, get_or, slice_get, slice_set, Bool, true, false, Some, if◌then◌else◌, ◌==◌, nat_lt}
use Rattle.ov_base.specs.Sums.{total}
use Rattle.ov_base.specs.declared.address.Addr.{Addr}
use Rattle.ov_model.specs.declared.place.Place.{Place}
use Rattle.ov_model.specs.declared.act.Act.{Act}
use Rattle.ov_model.specs.declared.act.Act.TheVariants as act
use Rattle.ov_model.specs.declared.act.Call.{Call}
use Rattle.ov_model.specs.declared.draw.Drawn.{Drawn}
use Rattle.ov_model.specs.declared.draw.Drawn.TheVariants as drawn
use Rattle.ov_model.specs.declared.hold.Given.{Given}
use Rattle.ov_model.specs.declared.hold.Given.TheVariants as given
use Rattle.ov_model.specs.declared.hold.Owed.{Owed}
use Rattle.ov_model.specs.declared.hold.Owed.TheVariants as owed
use Rattle.ov_model.specs.declared.line.Line.{Line}
use Rattle.ov_model.specs.declared.replay.ReplayEntry.{ReplayEntry}
use Rattle.ov_model.specs.Step.{Outcome, step, May, is_there, is_retired}
use Rattle.ov_model.specs.Events.{Event, Stepped, Judged, Drew, GaveKey, GavePeer, judgement_of}
use Rattle.ov_model.specs.Keys.{key_of}
use Rattle.ov_model.specs.Lifetime.{key_made_by}
use Rattle.ov_model.specs.Limits.{shard_count}
use Rattle.ov_model.specs.Next.{Ask, Table, Replay, Draw, GiveKey, GivePeer, Nil, Over, next as next_of_line}
use Rattle.ov_model.specs.Path.{removed}
use Rattle.ov_model.specs.Replay.{judged}
use Rattle.ov_model.specs.Lanes.{judged_in}
use Rattle.ov_path.specs.Desks.{Holding, NoHold, Both, PeerLeft, View, held_after, peer_left, owed_if, after_first, stepped_as}
use Rattle.ov_table.specs.Recorded.{Recorded, no_steps, stepped}

-- How many lanes there are.
abbrev pub lane_count : ℕ
lane_count = 64

-- What one lane has under way: the events of its present line, what it holds, and the releases that it owes, in
-- the order of their becoming so.
pub record Seat : Type 0 where
  pub events : List Event
  pub hold : Holding
  pub owing : List Owed

-- Nothing is under way.
abbrev pub no_line : Seat
no_line = record { events = []; hold = NoHold; owing = [] }

-- What all lanes share: the peer table with its journal and notes, the replay steps of each shard, where each
-- key's counter begins, the packet id that each key's counter gives next, and a seat for each lane.
pub record World : Type 0 where
  pub table : Recorded
  pub shards : List (List ReplayEntry)
  pub first : ℕ
  pub next : List ℕ
  pub seats : List Seat

-- The world before any event.
abbrev pub new_world : ℕ → World
new_world first = record { table = no_steps; shards = replicate shard_count []; first = first; next = []; seats = replicate lane_count no_line }

-- The id that a key's counter gives next. A key that isn't made yet will begin at the first.
abbrev pub next_of : World → ℕ → ℕ
next_of w key = get_or w.next key w.first

-- What a lane's line sees of the world.
abbrev pub seen_from : (Addr → Addr) → World → Seat → View
seen_from via w s = record { events = s.events; hold = s.hold; owing = s.owing; material = key_of w.table.journal; via = via }

-- ---- who holds and who owes

-- A hold is on a peer until it is given back, whether or not its key was: 1 where it is on this peer.
abbrev pub holds_peer : ℕ → Holding → ℕ
holds_peer peer NoHold = 0
holds_peer peer (Both h) = if h.peer == peer then 1 else 0
holds_peer peer (PeerLeft h) = if h.peer == peer then 1 else 0

-- 1 where a hold is on this key.
abbrev pub holds_key : ℕ → Holding → ℕ
holds_key key NoHold = 0
holds_key key (Both h) = if h.key == key then 1 else 0
holds_key key (PeerLeft h) = 0

-- How many lanes hold a peer.
abbrev pub peer_holds : ℕ → List Seat → ℕ
peer_holds peer seats = total (λ s. holds_peer peer s.hold) seats

-- How many lanes hold a key.
abbrev pub key_holds : ℕ → List Seat → ℕ
key_holds key seats = total (λ s. holds_key key s.hold) seats

-- 1 where the release that is owed is that of this peer.
abbrev pub is_peer : ℕ → Owed → ℕ
is_peer peer (owed.Peer p) = if p == peer then 1 else 0
is_peer peer (owed.Key k) = 0

-- 1 where the release that is owed is that of this key.
abbrev pub is_key : ℕ → Owed → ℕ
is_key key (owed.Peer p) = 0
is_key key (owed.Key k) = if k == key then 1 else 0

-- How often a peer's release is owed, over all lanes.
abbrev pub peer_owes : ℕ → List Seat → ℕ
peer_owes peer seats = total (λ s. total (is_peer peer) s.owing) seats

-- How often a key's release is owed, over all lanes.
abbrev pub key_owes : ℕ → List Seat → ℕ
key_owes key seats = total (λ s. total (is_key key) s.owing) seats

-- ---- a step of the table

-- What a step takes out of slots and removes, and what nobody holds, is owed by the lane that made the step: the
-- keys and then the peers, each in their order.
abbrev pub joined_by : List Seat → (taken removals : List ℕ) → List Owed
joined_by seats taken removals =
    map owed.Key (filter (λ k. key_holds k seats == 0) taken) ++ map owed.Peer (filter (λ p. peer_holds p seats == 0) removals)

-- A release takes the first of what is owed.
abbrev pub let_go : Act → List Owed → List Owed
let_go (act.Released peer) os = after_first os
let_go (act.KeyReleased key) os = after_first os
let_go _ os = os

-- The seat of the lane that made a step: its event, the hold of a look-up that found its peer and key, and what
-- is owed.
abbrev pub seat_stepped : List Seat → Seat → Place → Call → Outcome → Seat
seat_stepped seats s place call o = record s {
  events = s.events ++ stepped_as place call o.reply o.taken ∷ [];
  hold = held_after s.hold call.act o.reply;
  owing = let_go call.act s.owing ++ joined_by seats o.taken (removed o.reply);
}

-- Lane i made a step of the table. A key that was made has its counter at the first id.
abbrev pub after_step : World → ℕ → Seat → Place → Call → World
after_step w i s place call = record w {
  table = stepped w.table place call;
  next = w.next ++ map (λ _. w.first) (key_made_by call.act (step w.table.now call).reply);
  seats = slice_set w.seats i (seat_stepped w.seats s place call (step w.table.now call));
}

-- ---- a replay step and a draw

-- The shard in which a key's replay steps stand.
abbrev pub shard_of : ℕ → ℕ
shard_of key = key % shard_count

-- The replay step that comes next for a key.
abbrev pub judged_next : World → Place → (key id at : ℕ) → ReplayEntry
judged_next w place key id at = judged (get_or w.shards (shard_of key) []) place key id at

-- Lane i had a packet id judged.
abbrev pub after_replay : World → ℕ → Seat → Place → (key id at : ℕ) → World
after_replay w i s place key id at = record w {
  shards = judged_in w.shards (shard_of key) (judged_next w place key id at);
  seats = slice_set w.seats i (record s { events = s.events ++ Judged (judgement_of (judged_next w place key id at)) ∷ [] });
}

-- What a counter gives: 4294967295 is its last id.
abbrev pub drawn_of : ℕ → Drawn
drawn_of next = if nat_lt next 4294967296 then drawn.Id next else drawn.Spent

-- What a counter gives next, after it was asked.
abbrev pub next_after : ℕ → ℕ
next_after next = if nat_lt next 4294967296 then next + 1 else next

-- Lane i asked a key's counter.
abbrev pub after_draw : World → ℕ → Seat → ℕ → World
after_draw w i s key = record w {
  next = slice_set w.next key (next_after (next_of w key));
  seats = slice_set w.seats i (record s { events = s.events ++ Drew key (drawn_of (next_of w key)) ∷ [] });
}

-- ---- give-backs

-- A hold was the last where nobody holds any more what is on its way out.
abbrev pub given_where : (leaving : Bool) → (holds : ℕ) → Given
given_where false holds = given.More
given_where true holds = if holds == 0 then given.Last else given.More

-- The seats once lane i has no hold on its key any more.
abbrev pub without_key : List Seat → ℕ → Seat → List Seat
without_key seats i s = slice_set seats i (record s { hold = peer_left s.hold })

-- The seats once lane i has no hold any more.
abbrev pub without_hold : List Seat → ℕ → Seat → List Seat
without_hold seats i s = slice_set seats i (record s { hold = NoHold })

-- What giving back a key answers.
abbrev pub key_given : World → ℕ → Seat → ℕ → Given
key_given w i s key = given_where (is_retired key w.table.now.retired) (key_holds key (without_key w.seats i s))

-- What giving back a peer answers.
abbrev pub peer_given : World → ℕ → Seat → ℕ → Given
peer_given w i s peer = given_where (is_there peer w.table.now.dying) (peer_holds peer (without_hold w.seats i s))

-- Lane i gave its key back, and owes the key's release where its hold was the last.
abbrev pub after_key : World → ℕ → Seat → ℕ → World
after_key w i s key = record w {
  seats = slice_set w.seats i (record {
    events = s.events ++ GaveKey key (key_given w i s key) ∷ [];
    hold = peer_left s.hold;
    owing = s.owing ++ owed_if (key_given w i s key) (owed.Key key);
  });
}

-- Lane i gave its peer back, and owes the peer's release where its hold was the last.
abbrev pub after_peer : World → ℕ → Seat → ℕ → World
after_peer w i s peer = record w {
  seats = slice_set w.seats i (record {
    events = s.events ++ GavePeer peer (peer_given w i s peer) ∷ [];
    hold = NoHold;
    owing = s.owing ++ owed_if (peer_given w i s peer) (owed.Peer peer);
  });
}

-- ---- events

-- What a line asks for next.
abbrev pub ask_of : (Addr → Addr) → World → Seat → Line → Ask
ask_of via w s line = next_of_line via (key_of w.table.journal) line s.events s.owing

-- The world after the event that lane i asked for, for the line at a place.
abbrev pub happened : World → ℕ → Seat → Place → Line → Ask → World
happened w i s place line (Table a) = after_step w i s place (record { at = line.at; act = a })
happened w i s place line (Replay key id) = after_replay w i s place key id line.at
happened w i s place line (Draw key) = after_draw w i s key
happened w i s place line (GiveKey key) = after_key w i s key
happened w i s place line (GivePeer peer) = after_peer w i s peer
happened w i s place line Nil = w
happened w i s place line Over = w

-- An event of lane i, which has this seat, makes this of the world. A step of the table is allowed where it
-- stands, and a counter that is asked was made.
abbrev pub Makes : World → ℕ → Seat → Event → World → Type 0
Makes w i s (Stepped e) v = May w.table.now e.entry.call × (v ≡ after_step w i s e.entry.place e.entry.call)
Makes w i s (Judged j) v = v ≡ after_replay w i s j.place j.key j.id j.at
Makes w i s (Drew key d) v = (key < length w.next) × (v ≡ after_draw w i s key)
Makes w i s (GaveKey key g) v = v ≡ after_key w i s key
Makes w i s (GavePeer peer g) v = v ≡ after_peer w i s peer

-- An event of lane i happened.
pub record Happened (w : World) (i : ℕ) (event : Event) (v : World) : Type 0 where
  pub seat : Seat
  pub seat_is : slice_get w.seats i ≡ Some seat
  pub makes : Makes w i seat event v
