mod PushLaws
mod SinkLaws
mod TextLaws
