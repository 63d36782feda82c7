use Rattle.room.proofs.ShareLaws.{entry_shares, values_over, corners_over}
use Rattle.room.proofs.laws.shares.Goals as goal

pub returns : goal.returns
returns c = record { entry = entry_shares; values = values_over; corners = corners_over }
