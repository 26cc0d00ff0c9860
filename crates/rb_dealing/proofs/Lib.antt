mod Feeds
mod LaneLaws
mod Streams
