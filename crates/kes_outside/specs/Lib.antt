pub mod Count
pub mod Contents
pub mod CountedWriter
pub mod CallCounts
pub mod FilesInMemory
pub mod SinkInMemory
