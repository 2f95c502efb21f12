-- `room_words::put_head` meets its contract: where there is room, and past it.
use Rattle.room_words.proofs.Rooms.{head-past}
use Rattle.room_words.proofs.put_head.Goals as goal

pub returns-else-at-room : goal.returns-else-at-room
returns-else-at-room c = search (head-past)
