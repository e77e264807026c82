-- What the line holds is given back.
use Rattle.std.proofs.Common.{◌∙◌, sym, ap}
use Rattle.ov_past.specs.Holds.{holding}
use Rattle.ov_desk.proofs.Ending.{let_none, let_peer, let_both}
use Rattle.ov_desk.proofs.desk.LaneDesk.let_all_go.Goals as goal

pub returns-in-Nothing : goal.returns-in-Nothing
returns-in-Nothing g c = let_none c.args.self.now (sym c.holds.ensures ∙ ap holding c.in-Nothing.is)

pub returns-in-Both : goal.returns-in-Both
returns-in-Both g c = let_both c.args.self.now c.let_go.new.self c.let_go-in-Both.new.self c.in-Both.view.key c.in-Both.view.peer c.let_go.result c.let_go-in-Both.result c.let_go.ensures c.let_go-in-Both.ensures

pub returns-in-PeerLeft : goal.returns-in-PeerLeft
returns-in-PeerLeft g c = let_peer c.args.self.now c.let_go-in-PeerLeft.new.self c.in-PeerLeft.view.peer c.let_go-in-PeerLeft.result c.let_go-in-PeerLeft.ensures
