mod Cutting
mod Reading
