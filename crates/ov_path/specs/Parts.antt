-- What a line is asked to have, and what its parts say.
use Rattle.std.specs.Prelude.{ℕ, ◌≡◌, ◌≤◌, ⊤, List, length, Bool, true, false, Option, Some, None}
use Rattle.ov_model.specs.declared.act.Act.TheVariants as act
use Rattle.ov_model.specs.declared.line.Deed.{Deed}
use Rattle.ov_model.specs.declared.line.Deed.TheVariants as deed
use Rattle.ov_model.specs.declared.replay.Verdict.{Verdict}
use Rattle.ov_model.specs.declared.replay.Verdict.TheVariants as verdict
use Rattle.ov_model.specs.declared.replay.Refusal.{Refusal}
use Rattle.ov_model.specs.declared.replay.Refusal.TheVariants as refused
use Rattle.ov_model.specs.Limits.{overhead}
use Rattle.ov_model.specs.Packets.{packet_id_of}
use Rattle.ov_model.specs.Path.{Begin, at_once, first, IsLook}
use Rattle.ov_path.specs.declared.stage.Purpose.{Purpose}
use Rattle.ov_path.specs.declared.stage.Purpose.TheVariants as purpose
use Rattle.ov_path.specs.declared.begun.Begun.{Begun}
use Rattle.ov_path.specs.declared.begun.Begun.TheVariants as begun

-- The text, where there is one.
abbrev pub text_if : Bool → List ℕ → Option (List ℕ)
text_if true text = Some text
text_if false text = None

-- What the code says of a line's beginning.
abbrev pub begin_told : Begun → Begin
begin_told (begun.AtOnce a) = at_once a
begin_told (begun.Command c) = first (act.Do c)
begin_told (begun.Look a p) = first a

-- What a hold is for, by the line's deed: a packet is sealed, a datagram is opened by the packet id of its
-- head.
abbrev pub PurposeFits : Deed → Purpose → Type 0
PurposeFits (deed.Tx packet) purpose.Seal = ⊤
PurposeFits (deed.Rx from bytes) (purpose.Open id) = (id ≡ packet_id_of bytes) × (overhead ≤ length bytes)
PurposeFits _ p = ⊥

-- A look-up is one, and says what its hold is for.
abbrev pub LooksOnly : Deed → Begun → Type 0
LooksOnly d (begun.AtOnce a) = ⊤
LooksOnly d (begun.Command c) = ⊤
LooksOnly d (begun.Look a p) = IsLook a × PurposeFits d p

-- Why a packet id isn't taken, where it isn't.
abbrev pub refusal : Verdict → Option Refusal
refusal verdict.Accept = None
refusal verdict.Zero = Some refused.Zero
refusal verdict.Old = Some refused.Old
refusal verdict.Below = Some refused.Below
refusal verdict.Again = Some refused.Again
