-- The seats of the lanes, as the world keeps them, and what each call makes of the world.
use Rattle.std.specs.Prelude.{ℕ, zero, suc, ◌+◌, ◌-◌, ◌*◌, ◌%◌, if◌then◌else◌, ◌≡◌, ◌≤◌, ◌<◌, List, [], ◌∷◌, ◌++◌, length, map, filter, get_or, slice_get, slice_set, Bool, true, false, not, ◌==◌, Some}
use Rattle.std.specs.List.{list_any}
use Rattle.ov_base.specs.declared.address.Addr.{Addr}
use Rattle.ov_model.specs.declared.line.Route.{Route}
use Rattle.ov_model.specs.declared.place.Place.{Place}
use Rattle.ov_model.specs.declared.act.Act.{Act}
use Rattle.ov_model.specs.declared.act.Act.TheVariants as act
use Rattle.ov_model.specs.declared.act.Call.{Call}
use Rattle.ov_model.specs.declared.command.Command.TheVariants as command
use Rattle.ov_model.specs.declared.hold.Given.{Given}
use Rattle.ov_model.specs.declared.hold.Given.TheVariants as given
use Rattle.ov_model.specs.declared.hold.Owed.{Owed}
use Rattle.ov_model.specs.declared.hold.Owed.TheVariants as owed
use Rattle.ov_model.specs.declared.replay.ReplayEntry.{ReplayEntry}
use Rattle.ov_model.specs.declared.reply.Reply.{Reply}
use Rattle.ov_model.specs.Tables.{Table}
use Rattle.ov_model.specs.Step.{step, is_there, is_retired}
use Rattle.ov_model.specs.Events.{Event, Stepped, Drew, release_of}
use Rattle.ov_model.specs.Lifetime.{key_made_by}
use Rattle.ov_model.specs.Path.{removed}
use Rattle.ov_model.specs.Replay.{judged}
use Rattle.ov_model.specs.Via.{via_of}
use Rattle.ov_path.specs.Desks.{View, Holding, NoHold, Both, PeerLeft, HoldsKey, LeftPeer, held_after, peer_left, stepped_as, judged_at, after_first, owed_if}
use Rattle.ov_replay.specs.History.{History}
use Rattle.ov_table.specs.Recorded.{Recorded, no_steps, stepped}
use Rattle.ov_past.specs.Pasts.{gave}
use Rattle.ov_past.specs.Holds.{hold_without}
use Rattle.ov_core.specs.Worlds.{Seat, World, seen_from, Happened as HappenedThere, lane_count, drawn_of, next_after}
use Rattle.ov_core.specs.Sounds.{WorldSound}

-- ---- a seat

-- The events of a lane's present line, what it holds, and what it owes, with the room for more.
pub record Sitting : Type 0 where
  pub events : List Event
  pub hold : Holding
  pub owing : List Owed
  pub spare : ℕ

-- Nothing was done yet.
abbrev pub empty_seat : Sitting
empty_seat = record { events = []; hold = NoHold; owing = []; spare = 0 }

-- Whether the key is held.
abbrev pub has_key : ℕ → Holding → Bool
has_key key (Both h) = h.key == key
has_key key _ = false

-- Whether the peer is held.
abbrev pub has_peer : ℕ → Holding → Bool
has_peer peer (Both h) = h.peer == peer
has_peer peer (PeerLeft h) = h.peer == peer
has_peer peer NoHold = false

-- Whether what may be owed is held.
abbrev pub has : Owed → Holding → Bool
has (owed.Peer p) h = has_peer p h
has (owed.Key k) h = has_key k h

-- A seat that owes one release more.
abbrev pub owing_more : Sitting → Owed → Sitting
owing_more s o = record s { owing = s.owing ++ o ∷ []; spare = s.spare - 1 }

-- A seat that owes a release where its hold was the last.
abbrev pub owing_if : Sitting → Given → Owed → Sitting
owing_if s given.Last o = owing_more s o
owing_if s given.More o = s

-- A seat that owes some releases more.
abbrev pub owing_list : Sitting → List Owed → Sitting
owing_list s os = record s { owing = s.owing ++ os; spare = s.spare - length os }

-- A seat as the world of the definitions has it.
abbrev pub seen : Sitting → Seat
seen s = record { events = s.events; hold = s.hold; owing = s.owing }

-- ---- the world

-- The world as it is kept: the table, the replay windows, where each key's counter began and the id that it
-- gives next, the seats, the lane that has its turn, and the routes of the script.
pub record Seated : Type 0 where
  pub table : Recorded
  pub shards : List History
  pub first : ℕ
  pub next : List ℕ
  pub seats : List Sitting
  pub turn : ℕ
  pub routes : List Route

-- The replay steps of all shards.
abbrev pub histories : List History → List (List ReplayEntry)
histories shards = map (λ s. s.entries) shards

-- The world of the definitions.
abbrev pub world_of : Seated → World
world_of d = record { table = d.table; shards = histories d.shards; first = d.first; next = d.next; seats = map seen d.seats }

-- The seat of the lane that has its turn.
abbrev pub seat_of : Seated → Sitting
seat_of d = get_or d.seats d.turn empty_seat

-- The next hop of an address, by the script's routes.
abbrev pub via_in : Seated → Addr → Addr
via_in d = via_of d.routes

-- What the line sees of the world whose lane has its turn.
abbrev pub shown_of : Seated → View
shown_of d = seen_from (via_in d) (world_of d) (seen (seat_of d))

-- An event of the lane that has its turn happened.
pub record Happened (d : Seated) (event : Event) (e : Seated) : Type 0 where
  pub happened : HappenedThere (world_of d) d.turn event (world_of e)
  pub turn : e.turn ≡ d.turn
  pub routes : e.routes ≡ d.routes

-- So many shards without a step.
abbrev pub shards_to : ℕ → List History
shards_to zero = []
shards_to (suc n) = shards_to n ++ record { number = n; entries = [] } ∷ []

-- The eight shards without a step.
abbrev pub new_shards : List History
new_shards = shards_to 8

-- So many seats of lanes that have made no turn.
abbrev pub seats_to : ℕ → List Sitting
seats_to zero = []
seats_to (suc n) = seats_to n ++ empty_seat ∷ []

-- The world before any turn.
abbrev pub new_seated : ℕ → List Route → Seated
new_seated first routes = record { table = no_steps; shards = new_shards; first = first; next = []; seats = seats_to lane_count; turn = 0; routes = routes }

-- ---- what each call leaves

-- The lane that has its turn has another seat.
abbrev pub set_seat : Seated → Sitting → Seated
set_seat d s = record d { seats = slice_set d.seats d.turn s }

-- Whether a lane holds what may be owed.
abbrev pub is_held : List Sitting → Owed → Bool
is_held seats o = list_any (λ s. has o s.hold) seats

-- Lane i owes a release where nobody holds what is to be let go.
abbrev pub owe_one : List Sitting → ℕ → Owed → List Sitting
owe_one seats i o = if is_held seats o then seats else slice_set seats i (owing_more (get_or seats i empty_seat) o)

-- Lane i owes the releases of what nobody holds, one after the other.
abbrev pub owe_each : List Sitting → ℕ → List Owed → List Sitting
owe_each seats i [] = seats
owe_each seats i (o ∷ os) = owe_each (owe_one seats i o) i os

-- What a step took out of slots and removed, as releases.
abbrev pub leaving : (taken gone : List ℕ) → List Owed
leaving taken gone = map owed.Key taken ++ map owed.Peer gone

-- Of some releases those of what nobody holds.
abbrev pub unheld : List Sitting → List Owed → List Owed
unheld seats os = filter (λ o. not (is_held seats o)) os

-- A step before which a line holds nothing: a command or a look-up. The others come while it holds.
abbrev pub takes_room : Act → Bool
takes_room (act.Do c) = true
takes_room (act.TxLook a) = true
takes_room (act.RxLook id key_id from) = true
takes_room (act.KeepLook peer) = true
takes_room _ = false

-- Whether a step may remove all live peers. The others take two keys out of their slots and remove one peer at
-- most.
abbrev pub removes_all : Act → Bool
removes_all (act.Do command.Tick) = true
removes_all (act.Do command.Down) = true
removes_all _ = false

-- For how many releases a step takes room: for two keys and a peer, and three more for each live
-- peer where it may remove them all.
abbrev pub room_of : Table → Act → ℕ
room_of t a = if removes_all a then 3 + 3 * length t.live else 3

-- The seat as it takes room, where a step does.
abbrev pub seat_begun : (room : ℕ) → Act → Sitting → Sitting
seat_begun room a s = if takes_room a then record s { spare = room } else s

-- The seat of a lane as a step of the table finds it: with room.
abbrev pub begun_at : Table → Act → Sitting → Sitting
begun_at t a s = seat_begun (room_of t a) a s

-- The seat after a step of the table: its event, what a look-up holds, and what the lane owes.
abbrev pub seat_called : Table → Sitting → Place → Call → Reply → (taken : List ℕ) → (joined : List Owed) → Sitting
seat_called t s place call r taken joined = record {
  events = s.events ++ stepped_as place call r taken ∷ [];
  hold = held_after s.hold call.act r;
  owing = s.owing ++ joined;
  spare = (begun_at t call.act s).spare - length joined;
}

-- After a step of the table: the counter of a key that was made, and the seat of the lane.
abbrev pub after_call : Seated → Place → Call → Reply → Seated
after_call d place call r = record d {
  table = stepped d.table place call;
  next = d.next ++ map (λ _. d.first) (key_made_by call.act r);
  seats = slice_set d.seats d.turn (seat_called d.table.now (seat_of d) place call r (step d.table.now call).taken (unheld d.seats (leaving (step d.table.now call).taken (removed r))));
}

-- After a replay step, which the shard of the key has made.
abbrev pub after_judged : Seated → History → Place → (key id at : ℕ) → Seated
after_judged d shard place key id at = record d {
  shards = slice_set d.shards (key % 8) (record shard { entries = shard.entries ++ judged shard.entries place key id at ∷ [] });
  seats = slice_set d.seats d.turn (let s : Sitting = seat_of d in record s {
    events = s.events ++ judged_at place key id at (judged shard.entries place key id at).verdict ∷ [];
  });
}

-- After a draw.
abbrev pub after_drawn : Seated → ℕ → Seated
after_drawn d key = record d {
  next = slice_set d.next key (next_after (get_or d.next key d.first));
  seats = slice_set d.seats d.turn (let s : Sitting = seat_of d in record s {
    events = s.events ++ Drew key (drawn_of (get_or d.next key d.first)) ∷ [];
  });
}

-- Whether what may be owed is on its way out.
abbrev pub is_leaving : Table → Owed → Bool
is_leaving t (owed.Peer p) = is_there p t.dying
is_leaving t (owed.Key k) = is_retired k t.retired

-- A hold that was given back was the last: what was held is on its way out, and nobody holds it any more.
abbrev pub last_if : Bool → Bool → Given
last_if true false = given.Last
last_if _ _ = given.More

-- What a give-back answers, by the seats after it.
abbrev pub given_by : Table → List Sitting → Owed → Given
given_by t seats o = last_if (is_leaving t o) (is_held seats o)

-- What may be given back: the key that is held, or the peer whose key was given back.
abbrev pub GivesBack : Holding → Owed → Type 0
GivesBack h (owed.Key k) = HoldsKey h k
GivesBack h (owed.Peer p) = LeftPeer h p

-- What a give-back of the lane that has its turn answers.
abbrev pub given_back : Seated → Owed → Given
given_back d o = given_by d.table.now (slice_set d.seats d.turn (record (seat_of d) { hold = hold_without o (seat_of d).hold })) o

-- After a give-back.
abbrev pub after_gave : Seated → Owed → Seated
after_gave d o = set_seat d (
    let s : Sitting = seat_of d in
    let g : Given = given_back d o in
    owing_list (record s { events = s.events ++ gave o g ∷ []; hold = hold_without o s.hold }) (owed_if g o))

-- The call that lets a peer or a key go.
abbrev pub release_call : ℕ → Owed → Call
release_call at (owed.Peer p) = record { at = at; act = act.Released p }
release_call at (owed.Key k) = record { at = at; act = act.KeyReleased k }

-- After a release.
abbrev pub after_release : Seated → Place → ℕ → Owed → Seated
after_release d place at o = record d {
  table = stepped d.table place (release_call at o);
  seats = slice_set d.seats d.turn (let s : Sitting = seat_of d in record s {
    events = s.events ++ Stepped (release_of place at o) ∷ [];
    owing = after_first s.owing;
  });
}

-- When the line of the lane that has its turn is over: its events are forgotten.
abbrev pub after_line : Seated → Seated
after_line d = set_seat d (record (seat_of d) { events = [] })

-- ---- what is kept true

-- The releases that the line's own hold may come to owe.
abbrev pub may_owe : Holding → ℕ
may_owe NoHold = 0
may_owe (PeerLeft h) = 1
may_owe (Both h) = 2

-- What the world keeps true. Each line has the room for the releases that it may come to owe.
pub record Kept (d : Seated) : Type 0 where
  pub sound : WorldSound (world_of d)
  pub long : length d.seats ≡ 64
  pub turn : d.turn < 64
  pub numbers : (k : ℕ) (s : History) → slice_get d.shards k ≡ Some s → s.number ≡ k
  pub spare : (i : ℕ) (s : Sitting) → slice_get d.seats i ≡ Some s → may_owe s.hold ≤ s.spare
