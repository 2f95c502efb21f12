-- `text_words::write_lines` meets its contract: what the loop leaves, and a room that is cleared.
use Rattle.text_words.proofs.Keeping.{body-unread, body_kept, body-cleared}
use Rattle.text_words.proofs.write_lines.Goals as goal

pub all_lines-requires : goal.all_lines-requires
all_lines-requires c = c.requires

pub returns-in_default : goal.returns-in_default
returns-in_default c = body-unread c.all_lines.ensures c.in_default.is (c.fill.ensures.after (λ y e. e))

pub returns-then-is_kept : goal.returns-then-is_kept
returns-then-is_kept c = body_kept c.all_lines.ensures c.in-Some.is c.is_kept.ensures c.if-is_kept.true

pub returns : goal.returns
returns c = body-cleared c.all_lines.ensures c.in-Some.is c.is_kept.ensures c.if-is_kept.false (c.fill-2.ensures.after (λ y e. e))
