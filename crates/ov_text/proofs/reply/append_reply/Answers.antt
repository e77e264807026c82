-- Each kind of reply by its pieces.
use Rattle.std.proofs.Common.{◌∙◌, ap}
use Rattle.ov_text.specs.Replies.{reply_text}
use Rattle.ov_text.proofs.Lines.{kept_on, made_pieces, done_text, no_peer_text, no_key_text, skip_text, killed_text, already_gone_text, released_pieces, key_released_pieces, refused_pieces}
use Rattle.ov_text.proofs.reply.append_reply.Goals as goal

pub returns-in-Made : goal.returns-in-Made
returns-in-Made c = kept_on c.append_closed.result c.append_closed.new.page.items c.args.page.now.items _ _ c.append_closed.ensures (ap reply_text c.in-Made.is ∙ made_pieces c.in-Made.serial)

pub returns-in-Done : goal.returns-in-Done
returns-in-Done c = kept_on c.append.result c.append.new.page.items c.args.page.now.items _ _ c.append.ensures (ap reply_text c.in-Done.is ∙ done_text)

pub returns-in-NoPeer : goal.returns-in-NoPeer
returns-in-NoPeer c = kept_on c.append-in-NoPeer.result c.append-in-NoPeer.new.page.items c.args.page.now.items _ _ c.append-in-NoPeer.ensures (ap reply_text c.in-NoPeer.is ∙ no_peer_text)

pub returns-in-NoKey : goal.returns-in-NoKey
returns-in-NoKey c = kept_on c.append-in-NoKey.result c.append-in-NoKey.new.page.items c.args.page.now.items _ _ c.append-in-NoKey.ensures (ap reply_text c.in-NoKey.is ∙ no_key_text)

pub returns-in-Skip : goal.returns-in-Skip
returns-in-Skip c = kept_on c.append-in-Skip.result c.append-in-Skip.new.page.items c.args.page.now.items _ _ c.append-in-Skip.ensures (ap reply_text c.in-Skip.is ∙ skip_text)

pub returns-in-Killed : goal.returns-in-Killed
returns-in-Killed c = kept_on c.append-in-Killed.result c.append-in-Killed.new.page.items c.args.page.now.items _ _ c.append-in-Killed.ensures (ap reply_text c.in-Killed.is ∙ killed_text)

pub returns-in-AlreadyGone : goal.returns-in-AlreadyGone
returns-in-AlreadyGone c = kept_on c.append-in-AlreadyGone.result c.append-in-AlreadyGone.new.page.items c.args.page.now.items _ _ c.append-in-AlreadyGone.ensures (ap reply_text c.in-AlreadyGone.is ∙ already_gone_text)

pub returns-in-Released : goal.returns-in-Released
returns-in-Released c = kept_on c.append_closed-in-Released.result c.append_closed-in-Released.new.page.items c.args.page.now.items _ _ c.append_closed-in-Released.ensures (ap reply_text c.in-Released.is ∙ released_pieces c.in-Released.serial)

pub returns-in-KeyReleased : goal.returns-in-KeyReleased
returns-in-KeyReleased c = kept_on c.append_closed-in-KeyReleased.result c.append_closed-in-KeyReleased.new.page.items c.args.page.now.items _ _ c.append_closed-in-KeyReleased.ensures (ap reply_text c.in-KeyReleased.is ∙ key_released_pieces c.in-KeyReleased.serial)

pub returns-in-Refused : goal.returns-in-Refused
returns-in-Refused c = kept_on c.append_closed-in-Refused.result c.append_closed-in-Refused.new.page.items c.args.page.now.items _ _ (rw c.errno_number.ensures at c.append_closed-in-Refused.ensures) (ap reply_text c.in-Refused.is ∙ refused_pieces c.in-Refused.errno)
