-- `room_words::put_if` meets its contract: no word, one with room, one without.
use Rattle.room_words.proofs.Rooms.{put-not, put_one, put-none}
use Rattle.room_words.proofs.put_if.Goals as goal

pub returns-then-not-yes : goal.returns-then-not-yes
returns-then-not-yes c = search (put-not)

pub returns-then-n-room : goal.returns-then-n-room
returns-then-n-room c = search (put_one)

pub returns : goal.returns
returns c = search (put-none)
