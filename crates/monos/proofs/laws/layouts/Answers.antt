use Rattle.monos.proofs.LayoutLaws.{lawful_within, lawful_apart, parts_within, placed_by_parts, position_components, position_values}
use Rattle.monos.proofs.laws.layouts.Goals as goal

pub returns : goal.returns
returns c = record { within = lawful_within; apart = lawful_apart; parts = parts_within; place = placed_by_parts; components = position_components; vertices = position_values }
