pub mod Another
