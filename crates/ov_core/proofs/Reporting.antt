-- A sound script whose lanes are done gives the parts of a legal report.
use Rattle.std.proofs.Common.{ℕ, ◌≡◌, ◌+◌, ◌<◌, List, [], ◌∷◌, ◌++◌, length, refl, sym, ◌∙◌, ap, subst, arith, append-nil, if◌then◌else◌, ◌==◌}
use Rattle.std.specs.Prelude.{Option, Some, None, map, slice_get}
use Rattle.std.specs.Option.{option_map}
use Rattle.std.specs.List.{AllByRecursion, AllPairs}
use Rattle.std.proofs.lemmas.Bool.{eq-eqb}
use Rattle.std.proofs.lemmas.Bool.Decides.{nat_tests}
use Rattle.std.proofs.lemmas.Option.{slice_get-map, slice_get_within}
use Rattle.std.proofs.lemmas.List.{length-map}
use Rattle.ov_base.specs.Sums.{total}
use Rattle.ov_base.specs.declared.address.Addr.{Addr}
use Rattle.ov_model.specs.declared.line.Script.{Script}
use Rattle.ov_model.specs.declared.report.LaneLog.{LaneLog}
use Rattle.ov_model.specs.Events.{steps_of, draws_in}
use Rattle.ov_model.specs.Keys.{ids_of, ids_under}
use Rattle.ov_model.specs.Legal.{Legal}
use Rattle.ov_model.specs.Own.{mine, mine_shards}
use Rattle.ov_model.specs.Removals.{times, AllReleased}
use Rattle.ov_model.specs.Tables.{Peer, Key, serials_of, key_serials}
use Rattle.ov_model.specs.Via.{via_of}
use Rattle.ov_model.proofs.Lanes.{lane_done}
use Rattle.ov_core.specs.Worlds.{World, Seat, no_line, lane_count, next_of, peer_holds, key_holds, peer_owes, key_owes, holds_peer, holds_key, is_peer, is_key}
use Rattle.ov_core.specs.Sessions.{Lane, Session, log_of, report_of, IsDone}
use Rattle.ov_core.specs.Sounds.{Owes, LaneSound, Counts, Sound, IsOf, over_lanes}
use Rattle.ov_core.proofs.Seats.{all_at}
use Rattle.ov_core.proofs.Ending.{LaneParts, KeyParts, Parts, get_below, legal}

-- ---- lists

total_map : {X Y : Type 0} (f : Y → ℕ) (g : X → Y) (xs : List X) → total f (map g xs) ≡ total (λ x. f (g x)) xs
total_map f g [] = refl
total_map f g (x ∷ xs) = ap (λ n. f (g x) + n) (total_map f g xs)

-- A measure that is 0 at what all members are.
total_all : {X : Type 0} (f : X → ℕ) (a : X) (xs : List X) → f a ≡ 0 → AllByRecursion (λ x. x ≡ a) xs → total f xs ≡ 0
total_all f a [] none all = refl
total_all f a (x ∷ xs) none all = (let first : f x ≡ f a = ap f all.0 in omega (arith, total_all f a xs none all.1))

-- Where no serial stands, there is nothing.
nobody : {X : Type 0} (f : X → ℕ) (ps : List X) → ((x : ℕ) → times x (map f ps) ≡ 0) → ps ≡ []
nobody f [] none = refl
nobody f (p ∷ ps) none =
    let first : times (f p) (map f (p ∷ ps)) ≡ 1 + times (f p) (map f ps) = rw (eq-eqb (f p) (f p) refl) (omega arith) in
    absurd (let zero_times = none (f p) in omega arith)

-- A lane whose log stands in the report.
record LaneOf (s : Session) (i : ℕ) (log : LaneLog) : Type 0 where
  lane : Lane
  lane_is : slice_get s.lanes i ≡ Some lane
  log_is : log_of lane ≡ log

lane_found : (o : Option Lane) (log : LaneLog) → option_map log_of o ≡ Some log → (lane : Lane) × (o ≡ Some lane) × (log_of lane ≡ log)
lane_found None log is = absurd (let e : ◌≡◌ {A = Option LaneLog} None (Some log) = is in cc)
lane_found (Some lane) log is = (lane, refl, (let e : ◌≡◌ {A = Option LaneLog} (Some (log_of lane)) (Some log) = is in cc))

lane_of : (s : Session) (i : ℕ) (log : LaneLog) → slice_get (report_of s).lanes i ≡ Some log → LaneOf s i log
lane_of s i log at =
    let found = lane_found (slice_get s.lanes i) log (sym (slice_get-map log_of s.lanes i) ∙ at) in
    record { lane = found.0; lane_is = found.1; log_is = found.2 }

-- ---- a lane

lane_parts : (script : Script) (first : ℕ) (s : Session) (i : ℕ) (lane : Lane) → Sound (via_of script.routes) s → IsOf script first s → IsDone s → slice_get s.lanes i ≡ Some lane → LaneParts script (report_of s) i (log_of lane)
lane_parts script first s i lane sound is_of done lane_is =
    let long : length s.world.seats ≡ length s.lanes = sound.seated in
    let within : i < length s.lanes = slice_get_within s.lanes i lane lane_is in
    let seat = get_below s.world.seats i (omega arith) in
    let free : seat.x ≡ no_line = all_at (λ x. x ≡ no_line) s.world.seats i seat.x done.seats seat.is in
    let its : LaneSound (via_of script.routes) s.world.table.journal s.world.shards i lane no_line = subst (LaneSound (via_of script.routes) s.world.table.journal s.world.shards i lane) free (sound.lanes i lane seat.x lane_is seat.is) in
    record {
      lines = is_of.lines i lane lane_is;
      answered = all_at (λ (l : Lane). length l.answers ≡ length l.lines) s.lanes i lane done.lanes lane_is;
      recorded = refl;
      meets = lane_done (mine i (steps_of s.world.table.journal)) (mine_shards i s.world.shards) i lane.lines lane.answers its.runs;
      rise = its.rise;
    }

-- ---- a key

key_parts : {via : Addr → Addr} (first : ℕ) (s : Session) (key : ℕ) → Sound via s → s.world.first ≡ first → IsDone s → KeyParts first (report_of s) key
key_parts first s key sound first_is done =
    let counts : Counts s key = sound.counts key in
    let sealed : (f : List ℕ → ℕ) → f [] ≡ 0 → total (λ log. f (ids_of log.answers key)) (map log_of s.lanes) ≡ over_lanes f key s = λ f none.
    (let logs = total_map (λ (log : LaneLog). f (ids_of log.answers key)) log_of s.lanes in
    let drawn = total_all (λ (seat : Seat). f (ids_under key (draws_in seat.events))) no_line s.world.seats none done.seats in omega arith) in
    record {
      next = next_of s.world key;
      once = λ n. sealed (times n) refl ∙ rw (← first_is) (counts.once n);
      count = rw (← first_is) (ap (λ m. s.world.first + m) (sealed length refl) ∙ counts.count);
      most = sound.world.most key;
      dry = sound.world.spent key;
      rise = λ i log at.
          let its : LaneOf s i log = lane_of s i log at in
          let long : length s.world.seats ≡ length s.lanes = sound.seated in
          let within : i < length s.lanes = slice_get_within s.lanes i its.lane its.lane_is in
          let seat = get_below s.world.seats i (omega arith) in
          let free : seat.x ≡ no_line = all_at (λ x. x ≡ no_line) s.world.seats i seat.x done.seats seat.is in
          let rises : AllPairs (λ m n. m < n) (ids_of its.lane.answers key ++ ids_under key (draws_in seat.x.events)) = (counts.rise i its.lane seat.x its.lane_is seat.is).rise in
          let none : ids_of its.lane.answers key ++ ids_under key (draws_in seat.x.events) ≡ ids_of its.lane.answers key = rw free (append-nil (ids_of its.lane.answers key)) in
          subst (λ (l : LaneLog). AllPairs (λ m n. m < n) (ids_of l.answers key)) its.log_is (subst (AllPairs (λ m n. m < n)) none rises);
    }

-- ---- the report

-- What nobody holds and nobody owes isn't there.
none_left : (owed held n : ℕ) → owed ≡ (if held == 0 then n else 0) → owed ≡ 0 → held ≡ 0 → n ≡ 0
none_left owed held n is none free = grind (arith, nat_tests)

all_let_go : {via : Addr → Addr} (s : Session) → Sound via s → IsDone s → AllReleased s.world.table.journal
all_let_go s sound done =
    let w : World = s.world in
    let owes : Owes w = sound.world.owes in
    record {
      peers = rw sound.world.told.last (nobody (λ (p : Peer). p.serial) w.table.now.dying (λ p.
          let owed : peer_owes p w.seats ≡ 0 = total_all (λ (t : Seat). total (is_peer p) t.owing) no_line w.seats refl done.seats in
          let held : peer_holds p w.seats ≡ 0 = total_all (λ (t : Seat). holds_peer p t.hold) no_line w.seats refl done.seats in
          none_left (peer_owes p w.seats) (peer_holds p w.seats) (times p (serials_of w.table.now.dying)) (owes.peers p) owed held));
      keys = rw sound.world.told.last (nobody (λ (k : Key). k.serial) w.table.now.retired (λ k.
          let owed : key_owes k w.seats ≡ 0 = total_all (λ (t : Seat). total (is_key k) t.owing) no_line w.seats refl done.seats in
          let held : key_holds k w.seats ≡ 0 = total_all (λ (t : Seat). holds_key k t.hold) no_line w.seats refl done.seats in
          none_left (key_owes k w.seats) (key_holds k w.seats) (times k (key_serials w.table.now.retired)) (owes.keys k) owed held));
    }

pub parts_of : (script : Script) (first : ℕ) (s : Session) → AllByRecursion (λ line. line.lane < lane_count) script.lines → Sound (via_of script.routes) s → IsOf script first s → IsDone s → Parts script first (report_of s)
parts_of script first s named sound is_of done =
    let logs : length (map log_of s.lanes) ≡ length s.lanes = length-map s.lanes log_of in
    let lanes : length (map log_of s.lanes) ≡ lane_count = logs ∙ is_of.count in
    record {
      runs = sound.world.told.run;
      notes = sound.world.told.notes;
      named = rw lanes named;
      within = rw logs sound.within;
      lanes = λ i log at. (let its : LaneOf s i log = lane_of s i log at in subst (LaneParts script (report_of s) i) its.log_is (lane_parts script first s i its.lane sound is_of done its.lane_is));
      eight = sound.world.eight;
      judges = sound.world.judges;
      judged_within = rw logs sound.judged_within;
      keys = λ key. key_parts first s key sound is_of.first_is done;
      released = all_let_go s sound done;
    }

-- The report of a sound script whose lanes are done is legal.
pub done_legal : (script : Script) (first : ℕ) (s : Session) → AllByRecursion (λ line. line.lane < lane_count) script.lines → Sound (via_of script.routes) s → IsOf script first s → IsDone s → Legal script first (report_of s)
done_legal script first s named sound is_of done = legal script first (report_of s) (parts_of script first s named sound is_of done)
