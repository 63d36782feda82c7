mod ElementLaws
mod RunLaws
mod PartLaws
mod FunLaws
