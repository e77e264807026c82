use Rattle.ov_path.proofs.walk.Walk.turn.Given as goal

abbrev pub ghost-begin : goal.ghost-begin
ghost-begin g a = g.via

abbrev pub ghost-settle : goal.ghost-settle
ghost-settle g a = g.via

abbrev pub ghost-key_back : goal.ghost-key_back
ghost-key_back g a = g.via

abbrev pub ghost-peer_back : goal.ghost-peer_back
ghost-peer_back g a = g.via

abbrev pub ghost-release : goal.ghost-release
ghost-release g a = g.via

abbrev pub ghost-use_hold : goal.ghost-use_hold
ghost-use_hold g a = g.via

abbrev pub ghost-use_id : goal.ghost-use_id
ghost-use_id g a = g.via

abbrev pub ghost-tick : goal.ghost-tick
ghost-tick g a = g.via
